-- The root text: a state as the pieces that stand for it in a store.
use Rattle.std.specs.Prelude.{ℕ, List, [], ◌∷◌, ◌++◌, length, codes, true, false, Option, Some, None, unwrap_or}
use Rattle.std.specs.List.{flat_map}
use Rattle.std.specs.Fmt.{decimal}
use Rattle.machine_state.specs.declared.repo.Repo.{Repo}
use Rattle.machine_state.specs.declared.snapshot.Snapshot.{Snapshot}
use Rattle.machine_state.specs.declared.fetched.Fetched.{Fetched}
use Rattle.machine_state.specs.Values.{MirrorView, StateView}
use Rattle.catalogue_lines.specs.Pieces.{Piece, alone, joined}
use Rattle.catalogue_text.specs.MirrorLines.{mirror_line, archive_line, place_line, components_line, filter_line, deps_line, mirrors_line, updated_line, date_line}
use Rattle.catalogue_lines.specs.KnownForms.{known_pieces}
use Rattle.catalogue_lines.specs.NameLines.{architectures_line}
use Rattle.machine_state.specs.Words.{blank_and}
use Rattle.catalogue_lines.specs.SetLines.{set_pieces}
use Rattle.catalogue_publications.specs.PublicationLines.{publications_pieces}

abbrev pub repos_line : ℕ → List ℕ
repos_line count = codes "repos " ++ decimal count

abbrev pub name_line : List ℕ → List ℕ
name_line name = codes "repo " ++ name

abbrev pub comment_line : List ℕ → List ℕ
comment_line comment = codes "comment" ++ blank_and comment

abbrev pub distribution_line : Option (List ℕ) → List ℕ
distribution_line name = codes "distribution" ++ blank_and (unwrap_or name [])

abbrev pub component_line : List ℕ → List ℕ
component_line name = codes "component " ++ name

abbrev pub snapshots_line : ℕ → List ℕ
snapshots_line count = codes "snapshots " ++ decimal count

abbrev pub snapshot_line : List ℕ → List ℕ
snapshot_line name = codes "snapshot " ++ name

-- a repository: its settings and its list
unfoldable pub repo_pieces : Repo → List Piece
repo_pieces repo =
    alone (name_line repo.name) ∷ alone (comment_line repo.comment) ∷ alone (distribution_line repo.distribution)
    ∷ alone (component_line repo.component) ∷ set_pieces repo.list

-- what was fetched of an archive, where something was
abbrev pub updated_pieces : Option Fetched → List Piece
updated_pieces None = alone (updated_line false) ∷ []
updated_pieces (Some fetched) = alone (updated_line true) ∷ alone (date_line fetched.date) ∷ set_pieces fetched.list

-- a mirror: its settings, and what it fetched
unfoldable pub mirror_pieces : MirrorView → List Piece
mirror_pieces mirror =
    alone (mirror_line mirror.name) ∷ alone (archive_line mirror.archive) ∷ alone (place_line mirror.distribution)
    ∷ alone (components_line mirror.components) ∷ alone (architectures_line mirror.architectures) ∷ alone (filter_line mirror.filter)
    ∷ alone (deps_line mirror.with_deps) ∷ updated_pieces mirror.updated

-- the mirrors: how many they are, and each of them
unfoldable pub mirrors_pieces : List MirrorView → List Piece
mirrors_pieces mirrors = alone (mirrors_line (length mirrors)) ∷ flat_map mirror_pieces mirrors

-- the repositories: how many they are, and each of them
unfoldable pub repos_pieces : List Repo → List Piece
repos_pieces repos = alone (repos_line (length repos)) ∷ flat_map repo_pieces repos

-- a snapshot: its name and its list
unfoldable pub snapshot_pieces : Snapshot → List Piece
snapshot_pieces snapshot = alone (snapshot_line snapshot.name) ∷ set_pieces snapshot.list

-- the snapshots: how many they are, and each of them
unfoldable pub snapshots_pieces : List Snapshot → List Piece
snapshots_pieces snapshots = alone (snapshots_line (length snapshots)) ∷ flat_map snapshot_pieces snapshots

-- the end
unfoldable pub last_pieces : List Piece
last_pieces = alone (codes "end") ∷ []

unfoldable pub root_pieces : StateView → List Piece
root_pieces state =
    known_pieces state.known ++ (mirrors_pieces state.mirrors ++ (repos_pieces state.repos ++ (snapshots_pieces state.snapshots
    ++ (publications_pieces state.publications ++ last_pieces))))

-- the root text of a state
unfoldable pub root_text : StateView → List ℕ
root_text state = joined (root_pieces state)
