-- What reading the repositories, the snapshots and the end of a root comes to.
use Rattle.std.proofs.Common.{◌≡◌, ℕ, ◌<◌, ◌≤◌, List, [], length, Option, codes, refl, sym, subst, arith}
use Rattle.std.specs.List.{flat_map}
use Rattle.package_core.specs.Card.{Card}
use Rattle.machine_state.specs.declared.limit.Limit.TheVariants.{Repos, Snapshots}
use Rattle.machine_state.specs.declared.repo.Repo.{Repo}
use Rattle.machine_state.specs.declared.snapshot.Snapshot.{Snapshot}
use Rattle.machine_state.specs.Limits.{limit_number}
use Rattle.machine_state.specs.State.{repo_name, IsLineText}
use Rattle.catalogue_lines.specs.Lines.{IsLine}
use Rattle.catalogue_lines.specs.Pieces.{Takes}
use Rattle.catalogue_lines.specs.SetLines.{set_pieces}
use Rattle.catalogue_lines.specs.KnownForms.{IsWithinLimits}
use Rattle.catalogue_text.specs.Root.{repos_line, name_line, comment_line, distribution_line, component_line, snapshots_line, snapshot_line, repos_pieces, repo_pieces, snapshots_pieces, snapshot_pieces, last_pieces}
use Rattle.catalogue_lines.specs.PartForms.{IsNext, Line, Series, SetPart}
use Rattle.catalogue_text.specs.Grammar.{NextRepo, NextSnapshot, ReposPart, SnapshotsPart, LastPart}
use Rattle.catalogue_lines.specs.Reading.{NoLine, ReadsLine, Stops, Each, ReadsSeries, ReadsPart, GoodSet, IdsApart}
use Rattle.catalogue_text.specs.RootReading.{GoodRepo, GoodSnapshot, GoodRepos, GoodSnapshots}
use Rattle.catalogue_lines.proofs.Parts.{line_of, stops_line, stops_first, stops_then, stops_as, stops_series}
use Rattle.catalogue_lines.proofs.KnownParts.{set_part}
use Rattle.catalogue_text.proofs.RootParts.{repo_part, repo_told, IsDistribution, IsComponent, FromSet, FromComponent, FromDistribution, FromComment, set_of, component_of, distribution_of, comment_of, GoodFromSet, GoodFromComponent, GoodFromDistribution, GoodFromComment, made, from_set, from_component, from_distribution, from_comment, name_part, name_told, comment_part, comment_told, distribution_part, distribution_told, component_part, component_told, snapshot_part, snapshot_told, frozen, FromList, list_of, IsTitle, GoodFromList, title_part, title_told, from_list}
use Rattle.catalogue_text.proofs.RootLines.{repos_other, snapshots_other}
use Rattle.catalogue_lines.proofs.ReadLemmas.{counted_in, counted_up}

pub stops_snapshots : (known : List Card) → IdsApart known → (count : ℕ) (text rest : List ℕ) (xs : List Snapshot) (left : ℕ) → length xs < count → Each (GoodSnapshot known) [] xs → Takes text (flat_map snapshot_pieces xs) rest → Stops (NextSnapshot known xs) rest left → Stops (Series count (NextSnapshot known) []) text left
stops_snapshots known apart count text rest xs left few g t s = stops_series (NextSnapshot known) snapshot_pieces (GoodSnapshot known) (snapshot_part known) (λ before. snapshot_told known before apart) count text rest xs left few g t s

pub stops_repos : (known : List Card) → IdsApart known → (count : ℕ) (text rest : List ℕ) (xs : List Repo) (left : ℕ) → length xs < count → Each (GoodRepo known) [] xs → Takes text (flat_map repo_pieces xs) rest → Stops (NextRepo known xs) rest left → Stops (Series count (NextRepo known) []) text left
stops_repos known apart count text rest xs left few g t s = stops_series (NextRepo known) repo_pieces (GoodRepo known) (repo_part known) (λ before. repo_told known before apart) count text rest xs left few g t s

-- ---- the repositories
module _ (known : List Card) where
  pub repos_count : (text : List ℕ) (most : ℕ) → most ≡ limit_number Repos → NoLine repos_line (λ n. n ≤ most) text → Stops (ReposPart known) text (length text)
  unfolding ReposPart
  repos_count text most e none = counted_in (codes "repos ") (limit_number Repos) repos_other (omega arith) (NextRepo known) repo_pieces (GoodRepo known) (repo_part known) text most e none

  pub repos_rest : (text mid : List ℕ) (n most left : ℕ) → most ≡ limit_number Repos → n ≤ most → IsLine text (repos_line n) mid → Stops (Series n (NextRepo known) []) mid left → Stops (ReposPart known) text left
  unfolding ReposPart
  repos_rest text mid n most left e few m s = counted_up (codes "repos ") (limit_number Repos) repos_other (omega arith) (NextRepo known) repo_pieces (GoodRepo known) (repo_part known) text mid n left (omega arith) m s

  pub repos_read : (text mid : List ℕ) (n most : ℕ) → most ≡ limit_number Repos → n ≤ most → IsLine text (repos_line n) mid → (xs : List Repo) (behind : List ℕ) → ReadsSeries repo_pieces (GoodRepo known) n mid xs behind → ReadsPart repos_pieces (GoodRepos known) text xs behind
  unfolding repos_pieces
  repos_read text mid n most e few m xs behind r = record {
    good = (let c = r.counted in omega arith, r.good);
    takes = (mid, subst (λ (k : ℕ). IsLine text (repos_line k) mid) (sym r.counted) m, r.takes);
  }

  -- ---- the snapshots
  pub snapshots_count : (text : List ℕ) (most : ℕ) → most ≡ limit_number Snapshots → NoLine snapshots_line (λ n. n ≤ most) text → Stops (SnapshotsPart known) text (length text)
  unfolding SnapshotsPart
  snapshots_count text most e none = counted_in (codes "snapshots ") (limit_number Snapshots) snapshots_other (omega arith) (NextSnapshot known) snapshot_pieces (GoodSnapshot known) (snapshot_part known) text most e none

  pub snapshots_rest : (text mid : List ℕ) (n most left : ℕ) → most ≡ limit_number Snapshots → n ≤ most → IsLine text (snapshots_line n) mid → Stops (Series n (NextSnapshot known) []) mid left → Stops (SnapshotsPart known) text left
  unfolding SnapshotsPart
  snapshots_rest text mid n most left e few m s = counted_up (codes "snapshots ") (limit_number Snapshots) snapshots_other (omega arith) (NextSnapshot known) snapshot_pieces (GoodSnapshot known) (snapshot_part known) text mid n left (omega arith) m s

  pub snapshots_read : (text mid : List ℕ) (n most : ℕ) → most ≡ limit_number Snapshots → n ≤ most → IsLine text (snapshots_line n) mid → (xs : List Snapshot) (behind : List ℕ) → ReadsSeries snapshot_pieces (GoodSnapshot known) n mid xs behind → ReadsPart snapshots_pieces (GoodSnapshots known) text xs behind
  unfolding snapshots_pieces
  snapshots_read text mid n most e few m xs behind r = record {
    good = (let c = r.counted in omega arith, r.good);
    takes = (mid, subst (λ (k : ℕ). IsLine text (snapshots_line k) mid) (sym r.counted) m, r.takes);
  }

  -- ---- the end
  pub last_stops : (text : List ℕ) → ((behind : List ℕ) → IsWithinLimits known → IsLine text (codes "end") behind → ⊥) → Stops (LastPart known) text (length text)
  unfolding LastPart
  last_stops text none = stops_line {A = Unit {0}} (λ u. codes "end") (λ u. IsWithinLimits known) text (λ u behind g k. none behind g k)

  pub last_read : (text behind : List ℕ) → IsLine text (codes "end") behind → IsWithinLimits known → ReadsPart {A = Unit {0}} (λ u. last_pieces) (λ u. IsWithinLimits known) text tt behind
  unfolding last_pieces
  last_read text behind m g = record { good = g; takes = (behind, m, refl) }

-- ---- a repository
module _ (known : List Card) (before : List Repo) where
  pub at_name : (text : List ℕ) (left : ℕ) → Stops (Line name_line (IsNext repo_name before)) text left → Stops (NextRepo known before) text left
  unfolding NextRepo
  at_name text left s = stops_first (Line name_line (IsNext repo_name before)) (FromComment known before) (line_of name_line) (comment_of known before) (IsNext repo_name before) (GoodFromComment known before) (λ repo. repo.name) (name_part known before) (from_comment known before) text left s

  pub past_name : (text rest : List ℕ) (left : ℕ) (n : List ℕ) → IsNext repo_name before n → IsLine text (name_line n) rest → Stops (FromComment known before n) rest left → Stops (NextRepo known before) text left
  unfolding NextRepo
  past_name text rest left n g l s = stops_then (Line name_line (IsNext repo_name before)) (FromComment known before) (line_of name_line) (comment_of known before) (IsNext repo_name before) (GoodFromComment known before) (λ repo. repo.name) (name_part known before) (from_comment known before) (name_told known before) text rest left n g (rest, l, refl) s

  pub at_comment : (n text : List ℕ) (left : ℕ) → Stops (Line comment_line IsLineText) text left → Stops (FromComment known before n) text left
  at_comment n text left s = stops_first (Line comment_line IsLineText) (FromDistribution known before n) (line_of comment_line) (distribution_of known before) IsLineText (GoodFromDistribution known before n) (λ repo. repo.comment) (comment_part known before) (from_distribution known before n) text left s

  pub past_comment : (n text rest : List ℕ) (left : ℕ) (c : List ℕ) → IsLineText c → IsLine text (comment_line c) rest → Stops (FromDistribution known before n c) rest left → Stops (FromComment known before n) text left
  past_comment n text rest left c g l s = stops_then (Line comment_line IsLineText) (FromDistribution known before n) (line_of comment_line) (distribution_of known before) IsLineText (GoodFromDistribution known before n) (λ repo. repo.comment) (comment_part known before) (from_distribution known before n) (comment_told known before) text rest left c g (rest, l, refl) s

  pub at_distribution : (n c text : List ℕ) (left : ℕ) → Stops (Line distribution_line IsDistribution) text left → Stops (FromDistribution known before n c) text left
  at_distribution n c text left s = stops_first (Line distribution_line IsDistribution) (FromComponent known before n c) (line_of distribution_line) (component_of known before) IsDistribution (GoodFromComponent known before n c) (λ repo. repo.distribution) (distribution_part known before) (from_component known before n c) text left s

  pub past_distribution : (n c text rest : List ℕ) (left : ℕ) (d : Option (List ℕ)) → IsDistribution d → IsLine text (distribution_line d) rest → Stops (FromComponent known before n c d) rest left → Stops (FromDistribution known before n c) text left
  past_distribution n c text rest left d g l s = stops_then (Line distribution_line IsDistribution) (FromComponent known before n c) (line_of distribution_line) (component_of known before) IsDistribution (GoodFromComponent known before n c) (λ repo. repo.distribution) (distribution_part known before) (from_component known before n c) (distribution_told known before) text rest left d g (rest, l, refl) s

  pub at_component : (n c : List ℕ) (d : Option (List ℕ)) (text : List ℕ) (left : ℕ) → Stops (Line component_line IsComponent) text left → Stops (FromComponent known before n c d) text left
  at_component n c d text left s = stops_first (Line component_line IsComponent) (FromSet known before n c d) (line_of component_line) (set_of known before) IsComponent (GoodFromSet known before n c d) (λ repo. repo.component) (component_part known before) (from_set known before n c d) text left s

  pub past_component : (n c : List ℕ) (d : Option (List ℕ)) (text rest : List ℕ) (left : ℕ) (k : List ℕ) → IsComponent k → IsLine text (component_line k) rest → Stops (FromSet known before n c d k) rest left → Stops (FromComponent known before n c d) text left
  past_component n c d text rest left k g l s = stops_then (Line component_line IsComponent) (FromSet known before n c d) (line_of component_line) (set_of known before) IsComponent (GoodFromSet known before n c d) (λ repo. repo.component) (component_part known before) (from_set known before n c d) (component_told known before) text rest left k g (rest, l, refl) s

  pub at_set : (n c : List ℕ) (d : Option (List ℕ)) (k text : List ℕ) (left : ℕ) → Stops (SetPart known) text left → Stops (FromSet known before n c d k) text left
  at_set n c d k text left s = stops_as (SetPart known) set_pieces (GoodSet known) (made n c d k) (λ repo. repo.list) (set_part known) text left s

  pub repo_read : (text r1 r2 r3 r4 rest n c : List ℕ) (d : Option (List ℕ)) (k : List ℕ) (list : List Card) → ReadsLine name_line (IsNext repo_name before) text n r1 → ReadsLine comment_line IsLineText r1 c r2 → ReadsLine distribution_line IsDistribution r2 d r3 → ReadsLine component_line IsComponent r3 k r4 → ReadsPart set_pieces (GoodSet known) r4 list rest
      → ReadsPart repo_pieces (GoodRepo known before) text (made n c d k list) rest
  unfolding repo_pieces
  repo_read text r1 r2 r3 r4 rest n c d k list a b e f s = record {
    good = record { name = a.0; comment = b.0; distribution = e.0; component = f.0; list = s.good };
    takes = (r1, a.1, (r2, b.1, (r3, e.1, (r4, f.1, s.takes))));
  }

-- ---- a snapshot
module _ (known : List Card) (before : List Snapshot) where
  pub at_title : (text : List ℕ) (left : ℕ) → Stops (Line snapshot_line (IsTitle known before)) text left → Stops (NextSnapshot known before) text left
  unfolding NextSnapshot
  at_title text left s = stops_first (Line snapshot_line (IsTitle known before)) (FromList known before) (line_of snapshot_line) (list_of known before) (IsTitle known before) (GoodFromList known before) (λ snapshot. snapshot.name) (title_part known before) (from_list known before) text left s

  pub past_title : (text rest : List ℕ) (left : ℕ) (n : List ℕ) → IsTitle known before n → IsLine text (snapshot_line n) rest → Stops (SetPart known) rest left → Stops (NextSnapshot known before) text left
  unfolding NextSnapshot
  past_title text rest left n g l s =
      stops_then (Line snapshot_line (IsTitle known before)) (FromList known before) (line_of snapshot_line) (list_of known before) (IsTitle known before) (GoodFromList known before) (λ snapshot. snapshot.name) (title_part known before) (from_list known before) (title_told known before) text rest left n g (rest, l, refl)
      (stops_as (SetPart known) set_pieces (GoodSet known) (frozen n) (λ snapshot. snapshot.list) (set_part known) rest left s)

  pub snapshot_read : (text mid rest n : List ℕ) (list : List Card) → ReadsLine snapshot_line (IsTitle known before) text n mid → ReadsPart set_pieces (GoodSet known) mid list rest → ReadsPart snapshot_pieces (GoodSnapshot known before) text (frozen n list) rest
  unfolding snapshot_pieces
  snapshot_read text mid rest n list a s = record { good = record { name = a.0; list = s.good }; takes = (mid, a.1, s.takes) }
