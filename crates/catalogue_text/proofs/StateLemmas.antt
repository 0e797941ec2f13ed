-- A whole root: its parts read one behind another.
use Rattle.std.proofs.Common.{◌≡◌, ℕ, suc, ◌<◌, ◌^◌, ◌↔◌, Bool, true, false, List, [], length, IsTrue, refl, sym, ◌∙◌, subst}
use Rattle.std.proofs.lemmas.Bool.{true≢false}
use Rattle.package_core.specs.Card.{Card}
use Rattle.machine_state.specs.declared.repo.Repo.{Repo}
use Rattle.machine_state.specs.declared.snapshot.Snapshot.{Snapshot}
use Rattle.machine_state.specs.State.{Valid}
use Rattle.machine_state.specs.Values.{MirrorView, PublicationView, StateView}
use Rattle.catalogue_lines.specs.Lines.{is_ended, line_ends}
use Rattle.catalogue_lines.specs.Pieces.{Takes, joined}
use Rattle.catalogue_lines.specs.KnownForms.{known_pieces, KnownPart, IsWithinLimits}
use Rattle.catalogue_text.specs.Root.{mirrors_pieces, repos_pieces, snapshots_pieces, last_pieces, root_pieces, root_text}
use Rattle.catalogue_publications.specs.PublicationLines.{publications_pieces}
use Rattle.catalogue_text.specs.Grammar.{MirrorsPart, ReposPart, SnapshotsPart, LastPart, Root}
use Rattle.catalogue_publications.specs.PublicationGrammar.{PublicationsPart}
use Rattle.catalogue_text.specs.Faults.{TextsApart, IsFirstBadLine}
use Rattle.catalogue_lines.specs.Reading.{Stops, ReadsPart, GoodKnown, IdsApart}
use Rattle.catalogue_text.specs.RootReading.{StopsRoot, GoodRepos, GoodSnapshots}
use Rattle.catalogue_text.specs.MirrorReading.{GoodMirrors}
use Rattle.catalogue_publications.specs.PublicationReading.{GoodPublications}
use Rattle.catalogue_lines.proofs.Parts.{takes_both, stops_first, stops_then, stops_as}
use Rattle.catalogue_lines.proofs.KnownParts.{known_part, known_told}
use Rattle.catalogue_text.proofs.RootParts.{repos_part, repos_told, snapshots_part, snapshots_told, last_part}
use Rattle.catalogue_text.proofs.MirrorParts.{mirrors_part, mirrors_told}
use Rattle.catalogue_publications.proofs.PublicationParts.{publications_part, publications_told}
use Rattle.catalogue_text.proofs.WholeRoot.{FromMirrors, FromRepos, FromSnapshots, FromPublications, FromLast, GoodFromMirrors, GoodFromRepos, GoodFromSnapshots, GoodFromPublications, GoodFromLast, state_of, behind_known, behind_mirrors, behind_repos, behind_snapshots, behind_publications, from_last, from_publications, from_snapshots, from_repos, from_mirrors}
use Rattle.catalogue_text.proofs.RootTexts.{ids_apart, known_whole, valid_state, text_is_root, stops_root, stops_behind}

-- ---- what was read of a root so far, each part behind the one before it
pub record ReadKnown (text rest : List ℕ) (known : List Card) : Type 0 where
  pub known_is : ReadsPart known_pieces GoodKnown text known rest

pub record ReadMirrors (text rest : List ℕ) (known : List Card) (mirrors : List MirrorView) : Type 0 where
  pub mid : List ℕ
  pub before : ReadKnown text mid known
  pub mirrors_are : ReadsPart mirrors_pieces (GoodMirrors known) mid mirrors rest

pub record ReadRepos (text rest : List ℕ) (known : List Card) (mirrors : List MirrorView) (repos : List Repo) : Type 0 where
  pub mid : List ℕ
  pub before : ReadMirrors text mid known mirrors
  pub repos_are : ReadsPart repos_pieces (GoodRepos known) mid repos rest

pub record ReadSnapshots (text rest : List ℕ) (known : List Card) (mirrors : List MirrorView) (repos : List Repo) (snapshots : List Snapshot) : Type 0 where
  pub mid : List ℕ
  pub before : ReadRepos text mid known mirrors repos
  pub snapshots_are : ReadsPart snapshots_pieces (GoodSnapshots known) mid snapshots rest

pub record ReadPublications (text rest : List ℕ) (known : List Card) (mirrors : List MirrorView) (repos : List Repo) (snapshots : List Snapshot) (publications : List PublicationView) : Type 0 where
  pub mid : List ℕ
  pub before : ReadSnapshots text mid known mirrors repos snapshots
  pub publications_are : ReadsPart publications_pieces (GoodPublications known repos snapshots) mid publications rest

-- all parts of a root were read
pub record AllRead (text rest : List ℕ) (known : List Card) (mirrors : List MirrorView) (repos : List Repo) (snapshots : List Snapshot) (publications : List PublicationView) : Type 0 where
  pub mid : List ℕ
  pub before : ReadPublications text mid known mirrors repos snapshots publications
  pub closed : ReadsPart {A = Unit {0}} (λ u. last_pieces) (λ u. IsWithinLimits known) mid tt rest

-- ---- the ids of a text are apart where the texts of its packages are
ids_of : (text rest : List ℕ) (known : List Card) → ReadKnown text rest known → TextsApart text → IdsApart known
ids_of text rest known r apart = ids_apart known text rest apart r.known_is.takes

-- ---- where a root stops from each part on
past_known : (text rest : List ℕ) (left : ℕ) (known : List Card) → ReadKnown text rest known → Stops (FromMirrors known) rest left → Stops Root text left
unfolding Root
past_known text rest left known r s =
    stops_then KnownPart FromMirrors known_pieces behind_known GoodKnown GoodFromMirrors (λ state. state.known) known_part from_mirrors known_told text rest left known r.known_is.good r.known_is.takes s

module _ (known : List Card) (apart : IdsApart known) (text : List ℕ) where
  past_mirrors : (rest : List ℕ) (left : ℕ) (mirrors : List MirrorView) → ReadMirrors text rest known mirrors → Stops (FromRepos known mirrors) rest left → Stops Root text left
  past_mirrors rest left mirrors r s =
      past_known text r.mid left known r.before
      (stops_then (MirrorsPart known) (FromRepos known) mirrors_pieces behind_mirrors (GoodMirrors known) (GoodFromRepos known) (λ state. state.mirrors) (mirrors_part known) (from_repos known) (mirrors_told known apart) r.mid rest left mirrors r.mirrors_are.good r.mirrors_are.takes s)

  past_repos : (rest : List ℕ) (left : ℕ) (mirrors : List MirrorView) (repos : List Repo) → ReadRepos text rest known mirrors repos → Stops (FromSnapshots known mirrors repos) rest left → Stops Root text left
  past_repos rest left mirrors repos r s =
      past_mirrors r.mid left mirrors r.before
      (stops_then (ReposPart known) (FromSnapshots known mirrors) repos_pieces behind_repos (GoodRepos known) (GoodFromSnapshots known mirrors) (λ state. state.repos) (repos_part known) (from_snapshots known mirrors) (repos_told known apart) r.mid rest left repos
      r.repos_are.good r.repos_are.takes s)

  past_snapshots : (rest : List ℕ) (left : ℕ) (mirrors : List MirrorView) (repos : List Repo) (snapshots : List Snapshot) → ReadSnapshots text rest known mirrors repos snapshots → Stops (FromPublications known mirrors repos snapshots) rest left → Stops Root text left
  past_snapshots rest left mirrors repos snapshots r s =
      past_repos r.mid left mirrors repos r.before
      (stops_then (SnapshotsPart known) (FromPublications known mirrors repos) snapshots_pieces behind_snapshots (GoodSnapshots known) (GoodFromPublications known mirrors repos) (λ state. state.snapshots) (snapshots_part known) (from_publications known mirrors repos)
      (snapshots_told known apart) r.mid rest left snapshots r.snapshots_are.good r.snapshots_are.takes s)

  past_publications : (rest : List ℕ) (left : ℕ) (mirrors : List MirrorView) (repos : List Repo) (snapshots : List Snapshot) (publications : List PublicationView) → ReadPublications text rest known mirrors repos snapshots publications → Stops (LastPart known) rest left → Stops Root text left
  past_publications rest left mirrors repos snapshots publications r s =
      past_snapshots r.mid left mirrors repos snapshots r.before
      (stops_then (PublicationsPart known repos snapshots) (FromLast known mirrors repos snapshots) publications_pieces behind_publications (GoodPublications known repos snapshots) (GoodFromLast known mirrors repos snapshots) (λ state. state.publications)
      (publications_part known repos snapshots) (from_last known mirrors repos snapshots) (publications_told known repos snapshots apart) r.mid rest left publications r.publications_are.good r.publications_are.takes
      (stops_as (LastPart known) (λ u. last_pieces) (λ u. IsWithinLimits known) (λ u. state_of known mirrors repos snapshots publications) (λ state. tt) (last_part known) rest left s))

in_known : (text : List ℕ) (left : ℕ) → Stops KnownPart text left → Stops Root text left
unfolding Root
in_known text left s = stops_first KnownPart FromMirrors known_pieces behind_known GoodKnown GoodFromMirrors (λ state. state.known) known_part from_mirrors text left s

pub stops_in_known : (text : List ℕ) (left : ℕ) → Stops KnownPart text left → length text < 2 ^ 64 → TextsApart text → StopsRoot text left
stops_in_known text left s small apart = stops_root text left small apart (in_known text left s)

pub stops_in_mirrors : (text rest : List ℕ) (known : List Card) → ReadKnown text rest known → (left : ℕ) → (IdsApart known → Stops (MirrorsPart known) rest left) → length text < 2 ^ 64 → TextsApart text → StopsRoot text left
stops_in_mirrors text rest known r left s small apart =
    stops_root text left small apart (past_known text rest left known r
    (stops_first (MirrorsPart known) (FromRepos known) mirrors_pieces behind_mirrors (GoodMirrors known) (GoodFromRepos known) (λ state. state.mirrors) (mirrors_part known) (from_repos known) rest left (s (ids_of text rest known r apart))))

pub stops_in_repos : (text rest : List ℕ) (known : List Card) (mirrors : List MirrorView) → ReadMirrors text rest known mirrors → (left : ℕ) → (IdsApart known → Stops (ReposPart known) rest left) → length text < 2 ^ 64 → TextsApart text → StopsRoot text left
stops_in_repos text rest known mirrors r left s small apart =
    let ids = ids_of text r.mid known r.before apart in
    stops_root text left small apart (past_mirrors known ids text rest left mirrors r
    (stops_first (ReposPart known) (FromSnapshots known mirrors) repos_pieces behind_repos (GoodRepos known) (GoodFromSnapshots known mirrors) (λ state. state.repos) (repos_part known) (from_snapshots known mirrors) rest left (s ids)))

pub stops_in_snapshots : (text rest : List ℕ) (known : List Card) (mirrors : List MirrorView) (repos : List Repo) → ReadRepos text rest known mirrors repos → (left : ℕ) → (IdsApart known → Stops (SnapshotsPart known) rest left) → length text < 2 ^ 64 → TextsApart text → StopsRoot text left
stops_in_snapshots text rest known mirrors repos r left s small apart =
    let ids = ids_of text r.before.mid known r.before.before apart in
    stops_root text left small apart (past_repos known ids text rest left mirrors repos r
    (stops_first (SnapshotsPart known) (FromPublications known mirrors repos) snapshots_pieces behind_snapshots (GoodSnapshots known) (GoodFromPublications known mirrors repos) (λ state. state.snapshots) (snapshots_part known) (from_publications known mirrors repos) rest left (s ids)))

pub stops_in_publications : (text rest : List ℕ) (known : List Card) (mirrors : List MirrorView) (repos : List Repo) (snapshots : List Snapshot) → ReadSnapshots text rest known mirrors repos snapshots → (left : ℕ) → (IdsApart known → Stops (PublicationsPart known repos snapshots) rest left) → length text < 2 ^ 64 → TextsApart text → StopsRoot text left
stops_in_publications text rest known mirrors repos snapshots r left s small apart =
    let ids = ids_of text r.before.before.mid known r.before.before.before apart in
    stops_root text left small apart (past_snapshots known ids text rest left mirrors repos snapshots r
    (stops_first (PublicationsPart known repos snapshots) (FromLast known mirrors repos snapshots) publications_pieces behind_publications (GoodPublications known repos snapshots) (GoodFromLast known mirrors repos snapshots) (λ state. state.publications)
    (publications_part known repos snapshots) (from_last known mirrors repos snapshots) rest left (s ids)))

pub stops_in_last : (text rest : List ℕ) (known : List Card) (mirrors : List MirrorView) (repos : List Repo) (snapshots : List Snapshot) (publications : List PublicationView) → ReadPublications text rest known mirrors repos snapshots publications → (left : ℕ) → Stops (LastPart known) rest left
    → length text < 2 ^ 64 → TextsApart text → StopsRoot text left
stops_in_last text rest known mirrors repos snapshots publications r left s small apart =
    stops_root text left small apart (past_publications known (ids_of text r.before.before.before.mid known r.before.before.before.before apart) text rest left mirrors repos snapshots publications r s)

-- ---- the whole
module _ (text rest : List ℕ) (known : List Card) (mirrors : List MirrorView) (repos : List Repo) (snapshots : List Snapshot) (publications : List PublicationView) (w : AllRead text rest known mirrors repos snapshots publications) where
  abbrev pub whole : StateView
  whole = state_of known mirrors repos snapshots publications

  takes_all : Takes text (root_pieces whole) rest
  unfolding root_pieces
  takes_all =
      let p = w.before in
      let s = p.before in
      let r = s.before in
      let m = r.before in
      takes_both text m.mid rest (known_pieces known) (behind_known whole) m.before.known_is.takes
      (takes_both m.mid r.mid rest (mirrors_pieces mirrors) (behind_mirrors whole) m.mirrors_are.takes
      (takes_both r.mid s.mid rest (repos_pieces repos) (behind_repos whole) r.repos_are.takes
      (takes_both s.mid p.mid rest (snapshots_pieces snapshots) (behind_snapshots whole) s.snapshots_are.takes
      (takes_both p.mid w.mid rest (publications_pieces publications) last_pieces p.publications_are.takes w.closed.takes))))

  all_good : GoodKnown known × GoodFromMirrors known whole
  all_good =
      let p = w.before in
      let s = p.before in
      let r = s.before in
      let m = r.before in
      (m.before.known_is.good, (m.mirrors_are.good, (r.repos_are.good, (s.snapshots_are.good, (p.publications_are.good, (w.closed.good, refl))))))

  known_read : ReadKnown text w.before.before.before.before.mid known
  known_read = w.before.before.before.before.before

  pub stops_at_end : (at : Bool) → at ≡ false → (IsTrue at ↔ ((rest ≡ []) × (is_ended text ≡ true))) → length text < 2 ^ 64 → TextsApart text → StopsRoot text (length rest)
  stops_at_end at f h small apart = stops_behind text rest whole small (ids_of text w.before.before.before.before.mid known known_read apart) all_good takes_all unended
    where
      unended : rest ≡ [] → is_ended text ≡ false
      unended e = by_test (is_ended text) refl
        where
          by_test : (b : Bool) → is_ended text ≡ b → b ≡ false
          by_test true t = absurd (true≢false (sym (h.1 (e, t)) ∙ f))
          by_test false t = refl

  pub found_state : (at : Bool) → at ≡ true → (IsTrue at ↔ ((rest ≡ []) × (is_ended text ≡ true))) → Valid whole × (text ≡ root_text whole)
  found_state at t h =
      let e = h.0 t in (
        valid_state whole (known_whole known text w.before.before.before.before.mid known_read.known_is.takes) all_good,
        text_is_root text whole (subst (Takes text (root_pieces whole)) e.0 takes_all) e.1,
      )

pub first_bad : (text : List ℕ) (left number : ℕ) (s : StopsRoot text left) → number ≡ suc (line_ends (joined s.good)) → IsFirstBadLine text number
first_bad text left number s e = record { good = s.good; rest = s.rest; takes = s.takes; is = e; can = s.can; bad = s.bad; none = s.none }
