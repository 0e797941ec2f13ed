-- Which states are valid, and what is found in a state.
use Rattle.std.specs.Prelude.{ℕ, Bool, false, ◌&&◌, List, [], Option, is_some, IsTrue, All, find}
use Rattle.std.specs.Option.{option_cmp, option_eq}
use Rattle.std.specs.Str.{bytes_eq}
use Rattle.std.specs.Ordering.{nat_cmp, ordering_then}
use Rattle.std.specs.Cmp.Lexicographic.{slice_cmp}
use Rattle.std.specs.declared.cmp.Ordering.{Ordering}
use Rattle.package_core.specs.Card.{Card}
use Rattle.machine_state.specs.declared.limit.Kind.{Kind}
use Rattle.machine_state.specs.declared.limit.Kind.TheVariants as kinds
use Rattle.machine_state.specs.declared.limit.Limit.TheVariants.{Mirrors, Repos, Snapshots, Publications}
use Rattle.machine_state.specs.declared.repo.Repo.{Repo}
use Rattle.machine_state.specs.declared.snapshot.Snapshot.{Snapshot}
use Rattle.machine_state.specs.Limits.{limit_number}
use Rattle.machine_state.specs.Lists.{KindValid}
use Rattle.machine_state.specs.Mirrors.{IsMirror, MirrorLists, RepoLists, SnapshotLists}
use Rattle.machine_state.specs.Named.{named_cmp, named}
use Rattle.machine_state.specs.Publications.{IsPublication, PublicationLists}
use Rattle.machine_state.specs.Values.{MirrorView, PublicationView, StateView}
pub use Rattle.machine_state.specs.Lists.{IsKnown, IsNamedList, IsCatalogue, text_length}
pub use Rattle.machine_state.specs.Mirrors.{IsRepo, IsSnapshot}
pub use Rattle.machine_state.specs.Texts.{is_line, is_line_byte, is_line_text, IsLineText}

-- ---- what is found
abbrev pub mirror_name : MirrorView → List ℕ
mirror_name mirror = mirror.name

abbrev pub repo_name : Repo → List ℕ
repo_name repo = repo.name

abbrev pub snapshot_name : Snapshot → List ℕ
snapshot_name snapshot = snapshot.name

-- mirrors, repositories and snapshots are each in the order of their names
abbrev pub mirror_cmp : MirrorView → MirrorView → Ordering
mirror_cmp = named_cmp mirror_name

abbrev pub repo_cmp : Repo → Repo → Ordering
repo_cmp = named_cmp repo_name

abbrev pub snapshot_cmp : Snapshot → Snapshot → Ordering
snapshot_cmp = named_cmp snapshot_name

-- the mirror, the repository, the snapshot of that name
abbrev pub mirror_of : List ℕ → List MirrorView → Option MirrorView
mirror_of = named mirror_name

abbrev pub repo_of : List ℕ → List Repo → Option Repo
repo_of = named repo_name

abbrev pub snapshot_of : List ℕ → List Snapshot → Option Snapshot
snapshot_of = named snapshot_name

-- how a publication stands to a place: by the prefix, where none comes first, and then by the distribution
abbrev pub place_cmp : PublicationView → Option (List ℕ) → List ℕ → Ordering
place_cmp publication prefix dist = ordering_then (option_cmp (slice_cmp nat_cmp) publication.prefix prefix) (slice_cmp nat_cmp publication.dist dist)

abbrev pub publication_cmp : PublicationView → PublicationView → Ordering
publication_cmp a b = place_cmp a b.prefix b.dist

-- the publication of that prefix and distribution
abbrev pub publication_of : Option (List ℕ) → List ℕ → List PublicationView → Option PublicationView
publication_of prefix dist publications = find (λ publication. option_eq bytes_eq publication.prefix prefix && bytes_eq publication.dist dist) publications

-- ---- when a state is valid
abbrev pub AreMirrors : List Card → List MirrorView → Type 0
AreMirrors known = KindValid IsMirror (MirrorLists known) mirror_cmp (limit_number Mirrors)

abbrev pub AreRepos : List Card → List Repo → Type 0
AreRepos known = KindValid IsRepo (RepoLists known) repo_cmp (limit_number Repos)

abbrev pub AreSnapshots : List Card → List Snapshot → Type 0
AreSnapshots known = KindValid IsSnapshot (SnapshotLists known) snapshot_cmp (limit_number Snapshots)

abbrev pub ArePublications : List Card → List PublicationView → Type 0
ArePublications known = KindValid IsPublication (PublicationLists known) publication_cmp (limit_number Publications)

-- the state has what a publication of this kind names as a source
abbrev pub has_source : StateView → Kind → List ℕ → Bool
has_source state kinds.Repo name = is_some (repo_of name state.repos)
has_source state kinds.Snapshot name = is_some (snapshot_of name state.snapshots)
has_source state kinds.Mirror name = false
has_source state kinds.Component name = false

-- each source of the publication is there
abbrev pub HasSources : StateView → PublicationView → Type 0
HasSources state publication = All (λ source. IsTrue (has_source state publication.kind source.1)) publication.sources

-- A valid state: all that is said of its known packages, and of each kind by itself; the sources of publications are there. What
-- published files have to be is said beside the published tree.
pub record Valid (state : StateView) : Type 0 where
  pub known : IsCatalogue state.known
  pub mirrors : AreMirrors state.known state.mirrors
  pub repos : AreRepos state.known state.repos
  pub snapshots : AreSnapshots state.known state.snapshots
  pub publications : ArePublications state.known state.publications
  pub sources : All (HasSources state) state.publications

-- the state of an empty store
abbrev pub empty : StateView
empty = record { known = []; mirrors = []; repos = []; snapshots = []; publications = [] }
