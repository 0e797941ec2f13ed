-- What can stand first in a root: at each place the form that the pieces before it ask for, and with it the condition of a
-- valid state that it has to meet, by itself or together with the pieces before it. Nothing is asked of what could follow.
use Rattle.std.specs.Prelude.{Bool, true, false, List, [], codes, Option, Some, None, IsTrue, IfSome}
use Rattle.ap_text.specs.Names.{is_component}
use Rattle.package_core.specs.Card.{Card}
use Rattle.machine_state.specs.declared.limit.Limit.TheVariants.{Mirrors, Repos, Snapshots}
use Rattle.machine_state.specs.declared.fetched.Fetched.{Fetched}
use Rattle.machine_state.specs.declared.repo.Repo.{Repo}
use Rattle.machine_state.specs.declared.snapshot.Snapshot.{Snapshot}
use Rattle.machine_state.specs.Limits.{limit_number}
use Rattle.machine_state.specs.State.{IsLineText, mirror_name, repo_name, snapshot_name}
use Rattle.machine_state.specs.Texts.{IsDate, IsFilter, AreNames, is_listed, is_path}
use Rattle.machine_state.specs.Values.{MirrorView, StateView}
use Rattle.catalogue_lines.specs.Pieces.{Piece}
use Rattle.catalogue_text.specs.MirrorLines.{mirrors_line, mirror_line, archive_line, place_line, components_line, filter_line, deps_line, updated_line, date_line}
use Rattle.catalogue_lines.specs.NameLines.{architectures_line}
use Rattle.catalogue_text.specs.Root.{repos_line, name_line, comment_line, distribution_line, component_line, snapshots_line, snapshot_line}
use Rattle.catalogue_lines.specs.KnownForms.{IsWithinLimits, KnownPart}
use Rattle.catalogue_lines.specs.PartForms.{Ends, Line, Series, Count, SetPart, IsName, IsNext}
use Rattle.catalogue_publications.specs.PublicationGrammar.{PublicationsPart}

-- a repository whose name comes after those before it
unfoldable pub NextRepo : List Card → List Repo → (Repo → List Piece → Type 0) → List Piece → Type 0
NextRepo known before Next =
    Line name_line (IsNext repo_name before) (λ name. Line comment_line IsLineText (λ comment.
    Line distribution_line (λ name. IfSome name IsName) (λ distribution. Line component_line (λ name. IsTrue (is_component name)) (λ component.
    SetPart known (λ list. Next (record { name = name; comment = comment; distribution = distribution; component = component; list = list }))))))

-- a snapshot whose name comes after those before it
unfoldable pub NextSnapshot : List Card → List Snapshot → (Snapshot → List Piece → Type 0) → List Piece → Type 0
NextSnapshot known before Next = Line snapshot_line (IsNext snapshot_name before) (λ name. SetPart known (λ list. Next (record { name = name; list = list })))

-- what was fetched of an archive: nothing, or a date and a list
abbrev pub FetchedPart : List Card → Bool → (Option Fetched → List Piece → Type 0) → List Piece → Type 0
FetchedPart known false Next = Next None
FetchedPart known true Next = Line date_line IsDate (λ date. SetPart known (λ list. Next (Some (record { date = date; list = list }))))

abbrev pub UpdatedPart : List Card → (Option Fetched → List Piece → Type 0) → List Piece → Type 0
UpdatedPart known Next = Line updated_line (λ is. Unit {0}) (λ is. FetchedPart known is Next)

-- a mirror whose name comes after those before it
unfoldable pub NextMirror : List Card → List MirrorView → (MirrorView → List Piece → Type 0) → List Piece → Type 0
NextMirror known before Next =
    Line mirror_line (IsNext mirror_name before) (λ name. Line archive_line (λ path. IsTrue (is_path 200 path)) (λ archive.
    Line place_line (λ path. IsTrue (is_path 100 path)) (λ distribution. Line components_line (AreNames is_component) (λ components.
    Line architectures_line (AreNames is_listed) (λ architectures. Line filter_line (λ filter. IfSome filter IsFilter) (λ filter.
    Line deps_line (λ is. Unit {0}) (λ with_deps. UpdatedPart known (λ updated.
    Next (record { name = name; archive = archive; distribution = distribution; components = components; architectures = architectures; filter = filter; with_deps = with_deps; updated = updated })))))))))

-- the end of a root that knows these packages
unfoldable pub LastPart : List Card → (Unit {0} → List Piece → Type 0) → List Piece → Type 0
LastPart known Next = Line (λ u. codes "end") (λ u. IsWithinLimits known) Next

-- the mirrors of a root that knows these packages
unfoldable pub MirrorsPart : List Card → (List MirrorView → List Piece → Type 0) → List Piece → Type 0
MirrorsPart known Next = Count mirrors_line (limit_number Mirrors) (λ n. Series n (NextMirror known) [] Next)

-- the repositories of a root that knows these packages
unfoldable pub ReposPart : List Card → (List Repo → List Piece → Type 0) → List Piece → Type 0
ReposPart known Next = Count repos_line (limit_number Repos) (λ n. Series n (NextRepo known) [] Next)

-- the snapshots of a root that knows these packages
unfoldable pub SnapshotsPart : List Card → (List Snapshot → List Piece → Type 0) → List Piece → Type 0
SnapshotsPart known Next = Count snapshots_line (limit_number Snapshots) (λ n. Series n (NextSnapshot known) [] Next)

-- a root
unfoldable pub Root : (StateView → List Piece → Type 0) → List Piece → Type 0
Root Next =
    KnownPart (λ known. MirrorsPart known (λ mirrors. ReposPart known (λ repos. SnapshotsPart known (λ snapshots.
    PublicationsPart known repos snapshots (λ publications. LastPart known (λ u.
    Next (record { known = known; mirrors = mirrors; repos = repos; snapshots = snapshots; publications = publications })))))))

-- these pieces can stand first in a root
abbrev pub CanStand : List Piece → Type 0
CanStand pieces = Root Ends pieces
