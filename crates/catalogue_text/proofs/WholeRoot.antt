-- A whole root: its parts, one behind another.
use Rattle.std.proofs.Common.{◌≡◌, List, ◌++◌, subst, append_assoc}
use Rattle.package_core.specs.Card.{Card}
use Rattle.machine_state.specs.declared.repo.Repo.{Repo}
use Rattle.machine_state.specs.declared.snapshot.Snapshot.{Snapshot}
use Rattle.machine_state.specs.Values.{MirrorView, PublicationView, StateView}
use Rattle.catalogue_lines.specs.Pieces.{Piece}
use Rattle.catalogue_lines.specs.KnownForms.{known_pieces, KnownPart, IsWithinLimits}
use Rattle.catalogue_text.specs.Root.{mirrors_pieces, repos_pieces, snapshots_pieces, last_pieces, root_pieces}
use Rattle.catalogue_publications.specs.PublicationLines.{publications_pieces}
use Rattle.catalogue_text.specs.Grammar.{MirrorsPart, ReposPart, SnapshotsPart, LastPart, Root}
use Rattle.catalogue_publications.specs.PublicationGrammar.{PublicationsPart}
use Rattle.catalogue_lines.specs.Reading.{GoodKnown, IdsApart}
use Rattle.catalogue_text.specs.RootReading.{GoodRepos, GoodSnapshots}
use Rattle.catalogue_text.specs.MirrorReading.{GoodMirrors}
use Rattle.catalogue_publications.specs.PublicationReading.{GoodPublications}
use Rattle.catalogue_lines.proofs.Parts.{IsPart, IsTold, both_part, both_told, as_part, as_told}
use Rattle.catalogue_lines.proofs.KnownParts.{known_part, known_told}
use Rattle.catalogue_text.proofs.RootParts.{repos_part, repos_told, snapshots_part, snapshots_told, last_part, last_told}
use Rattle.catalogue_text.proofs.MirrorParts.{mirrors_part, mirrors_told}
use Rattle.catalogue_publications.proofs.PublicationParts.{publications_part, publications_told}

abbrev pub state_of : List Card → List MirrorView → List Repo → List Snapshot → List PublicationView → StateView
state_of known mirrors repos snapshots publications = record { known = known; mirrors = mirrors; repos = repos; snapshots = snapshots; publications = publications }

-- what stands behind each part
abbrev pub behind_publications : StateView → List Piece
behind_publications state = last_pieces

abbrev pub behind_snapshots : StateView → List Piece
behind_snapshots state = publications_pieces state.publications ++ behind_publications state

abbrev pub behind_repos : StateView → List Piece
behind_repos state = snapshots_pieces state.snapshots ++ behind_snapshots state

abbrev pub behind_mirrors : StateView → List Piece
behind_mirrors state = repos_pieces state.repos ++ behind_repos state

abbrev pub behind_known : StateView → List Piece
behind_known state = mirrors_pieces state.mirrors ++ behind_mirrors state

module _ (known : List Card) where
  -- a root from each part on
  abbrev pub FromLast : List MirrorView → List Repo → List Snapshot → List PublicationView → (StateView → List Piece → Type 0) → List Piece → Type 0
  FromLast mirrors repos snapshots publications K = LastPart known (λ u. K (state_of known mirrors repos snapshots publications))

  abbrev pub FromPublications : List MirrorView → List Repo → List Snapshot → (StateView → List Piece → Type 0) → List Piece → Type 0
  FromPublications mirrors repos snapshots K = PublicationsPart known repos snapshots (λ publications. FromLast mirrors repos snapshots publications K)

  abbrev pub FromSnapshots : List MirrorView → List Repo → (StateView → List Piece → Type 0) → List Piece → Type 0
  FromSnapshots mirrors repos K = SnapshotsPart known (λ snapshots. FromPublications mirrors repos snapshots K)

  abbrev pub FromRepos : List MirrorView → (StateView → List Piece → Type 0) → List Piece → Type 0
  FromRepos mirrors K = ReposPart known (λ repos. FromSnapshots mirrors repos K)

  abbrev pub FromMirrors : (StateView → List Piece → Type 0) → List Piece → Type 0
  FromMirrors K = MirrorsPart known (λ mirrors. FromRepos mirrors K)

  -- what is good from each part on
  abbrev pub GoodFromLast : List MirrorView → List Repo → List Snapshot → List PublicationView → StateView → Type 0
  GoodFromLast mirrors repos snapshots publications state = IsWithinLimits known × (state_of known mirrors repos snapshots publications ≡ state)

  abbrev pub GoodFromPublications : List MirrorView → List Repo → List Snapshot → StateView → Type 0
  GoodFromPublications mirrors repos snapshots state = GoodPublications known repos snapshots state.publications × GoodFromLast mirrors repos snapshots state.publications state

  abbrev pub GoodFromSnapshots : List MirrorView → List Repo → StateView → Type 0
  GoodFromSnapshots mirrors repos state = GoodSnapshots known state.snapshots × GoodFromPublications mirrors repos state.snapshots state

  abbrev pub GoodFromRepos : List MirrorView → StateView → Type 0
  GoodFromRepos mirrors state = GoodRepos known state.repos × GoodFromSnapshots mirrors state.repos state

  abbrev pub GoodFromMirrors : StateView → Type 0
  GoodFromMirrors state = GoodMirrors known state.mirrors × GoodFromRepos state.mirrors state

  pub from_last : (mirrors : List MirrorView) (repos : List Repo) (snapshots : List Snapshot) (publications : List PublicationView) → IsPart (FromLast mirrors repos snapshots publications) behind_publications (GoodFromLast mirrors repos snapshots publications)
  from_last mirrors repos snapshots publications = as_part (LastPart known) (λ u. last_pieces) (λ u. IsWithinLimits known) (λ u. state_of known mirrors repos snapshots publications) (λ state. tt) (last_part known)

  pub from_publications : (mirrors : List MirrorView) (repos : List Repo) (snapshots : List Snapshot) → IsPart (FromPublications mirrors repos snapshots) behind_snapshots (GoodFromPublications mirrors repos snapshots)
  from_publications mirrors repos snapshots =
      both_part (PublicationsPart known repos snapshots) (FromLast mirrors repos snapshots) publications_pieces behind_publications (GoodPublications known repos snapshots) (GoodFromLast mirrors repos snapshots) (λ state. state.publications)
      (publications_part known repos snapshots) (from_last mirrors repos snapshots)

  pub from_snapshots : (mirrors : List MirrorView) (repos : List Repo) → IsPart (FromSnapshots mirrors repos) behind_repos (GoodFromSnapshots mirrors repos)
  from_snapshots mirrors repos =
      both_part (SnapshotsPart known) (FromPublications mirrors repos) snapshots_pieces behind_snapshots (GoodSnapshots known) (GoodFromPublications mirrors repos) (λ state. state.snapshots) (snapshots_part known) (from_publications mirrors repos)

  pub from_repos : (mirrors : List MirrorView) → IsPart (FromRepos mirrors) behind_mirrors (GoodFromRepos mirrors)
  from_repos mirrors = both_part (ReposPart known) (FromSnapshots mirrors) repos_pieces behind_repos (GoodRepos known) (GoodFromSnapshots mirrors) (λ state. state.repos) (repos_part known) (from_snapshots mirrors)

  pub from_mirrors : IsPart FromMirrors behind_known GoodFromMirrors
  from_mirrors = both_part (MirrorsPart known) FromRepos mirrors_pieces behind_mirrors (GoodMirrors known) GoodFromRepos (λ state. state.mirrors) (mirrors_part known) from_repos

  -- the pieces tell the state
  module _ (apart : IdsApart known) where
    from_last_told : (mirrors : List MirrorView) (repos : List Repo) (snapshots : List Snapshot) (publications : List PublicationView) → IsTold (FromLast mirrors repos snapshots publications) behind_publications (GoodFromLast mirrors repos snapshots publications)
    from_last_told mirrors repos snapshots publications = as_told (LastPart known) (λ u. last_pieces) (λ u. IsWithinLimits known) (λ u. state_of known mirrors repos snapshots publications) (λ state. tt) (last_part known) (last_told known)

    from_publications_told : (mirrors : List MirrorView) (repos : List Repo) (snapshots : List Snapshot) → IsTold (FromPublications mirrors repos snapshots) behind_snapshots (GoodFromPublications mirrors repos snapshots)
    from_publications_told mirrors repos snapshots =
        both_told (PublicationsPart known repos snapshots) (FromLast mirrors repos snapshots) publications_pieces behind_publications (GoodPublications known repos snapshots) (GoodFromLast mirrors repos snapshots) (λ state. state.publications)
        (publications_part known repos snapshots) (from_last mirrors repos snapshots) (publications_told known repos snapshots apart) (from_last_told mirrors repos snapshots)

    from_snapshots_told : (mirrors : List MirrorView) (repos : List Repo) → IsTold (FromSnapshots mirrors repos) behind_repos (GoodFromSnapshots mirrors repos)
    from_snapshots_told mirrors repos =
        both_told (SnapshotsPart known) (FromPublications mirrors repos) snapshots_pieces behind_snapshots (GoodSnapshots known) (GoodFromPublications mirrors repos) (λ state. state.snapshots) (snapshots_part known) (from_publications mirrors repos)
        (snapshots_told known apart) (from_publications_told mirrors repos)

    from_repos_told : (mirrors : List MirrorView) → IsTold (FromRepos mirrors) behind_mirrors (GoodFromRepos mirrors)
    from_repos_told mirrors =
        both_told (ReposPart known) (FromSnapshots mirrors) repos_pieces behind_repos (GoodRepos known) (GoodFromSnapshots mirrors) (λ state. state.repos) (repos_part known) (from_snapshots mirrors) (repos_told known apart) (from_snapshots_told mirrors)

    pub from_mirrors_told : IsTold FromMirrors behind_known GoodFromMirrors
    from_mirrors_told =
        both_told (MirrorsPart known) FromRepos mirrors_pieces behind_mirrors (GoodMirrors known) GoodFromRepos (λ state. state.mirrors) (mirrors_part known) from_repos (mirrors_told known apart) from_repos_told

abbrev pub GoodState : StateView → Type 0
GoodState state = GoodKnown state.known × GoodFromMirrors state.known state

pub root_part : IsPart Root root_pieces GoodState
unfolding Root root_pieces
root_part = both_part KnownPart FromMirrors known_pieces behind_known GoodKnown GoodFromMirrors (λ state. state.known) known_part from_mirrors

pub root_told : (K : StateView → List Piece → Type 0) (state : StateView) (more : List Piece) → IdsApart state.known → GoodState state → Root K (root_pieces state ++ more) → K state more
unfolding Root root_pieces
root_told K state more apart g p =
    from_mirrors_told state.known apart K state more g.1
    (known_told (λ known. FromMirrors known K) state.known (behind_known state ++ more) g.0
    (subst (Root K) (append_assoc (known_pieces state.known) (behind_known state) more) p))
