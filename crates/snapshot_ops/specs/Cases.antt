-- The commands of snapshots: what each is in a state.
use Rattle.std.specs.Prelude.{ℕ, Bool, false, List, [], ◌∷◌, length, map, Option, Some, None, Result, Ok, Err, unwrap_or, if◌then◌else◌}
use Rattle.std.specs.Option.{is_some}
use Rattle.package_core.specs.Card.{Card}
use Rattle.command_value.specs.declared.command.Origin.TheVariants as origins
use Rattle.command_value.specs.Plain.{PlainFollow, SnapshotCommand, snapshot_create, snapshot_drop, snapshot_filter, snapshot_list, snapshot_merge, snapshot_pull, snapshot_rename, snapshot_search, snapshot_show}
use Rattle.machine_state.specs.declared.limit.Kind.TheVariants as kinds
use Rattle.machine_state.specs.declared.refusal.Refusal.{Refusal}
use Rattle.machine_state.specs.declared.refusal.Refusal.TheVariants.{Unknown}
use Rattle.machine_state.specs.declared.repo.Repo.{Repo}
use Rattle.machine_state.specs.declared.snapshot.Snapshot.{Snapshot}
use Rattle.machine_state.specs.Named.{dropped, renamed}
use Rattle.machine_state.specs.Sources.{in_use, source_renamed}
use Rattle.machine_state.specs.State.{repo_of, snapshot_name, snapshot_of}
use Rattle.machine_state.specs.Values.{StateView}
use Rattle.mirror_lists.specs.Mirrors.{fetched_list_of, never_updated, unknown_mirror}
use Rattle.package_choice.specs.Choice.{bad_follow, chosen_with}
use Rattle.reply_text.specs.Replies.{package_search}
use Rattle.reply_text.specs.Snapshots as replies
use Rattle.step_model.specs.Case.{Case, Came, changes, refuses, or_else, plain_case, asking_case, unbuilt}
use Rattle.step_model.specs.Names.{bad_name}
pub use Rattle.snapshot_pull.specs.Snapshots.{taken, unknown, list_in, list_of, snapshot_from, with_snapshot, made}
pub use Rattle.snapshot_pull.specs.Pulls.{MayArrive, flags_of, pull_case}
use Rattle.snapshot_ops.specs.Merges.{merge_of, way_of}
use Rattle.snapshot_ops.specs.Replies as own

-- ---- what is there

-- no repository has the name
abbrev pub unknown_repo : List Repo → List ℕ → Option Refusal
unknown_repo repos name = if is_some (repo_of name repos) then None else Some (Unknown kinds.Repo name)

-- the text is no name, or no snapshot has it
abbrev pub bad_snapshot : StateView → List ℕ → Option Refusal
bad_snapshot state name = or_else (bad_name name) (unknown state.snapshots name)

-- the first of these texts that is no name
abbrev pub bad_among : List (List ℕ) → Option Refusal
bad_among [] = None
bad_among (name ∷ names) = or_else (bad_name name) (bad_among names)

-- the first of these names that no snapshot has
abbrev pub unknown_among : List Snapshot → List (List ℕ) → Option Refusal
unknown_among snapshots [] = None
unknown_among snapshots (name ∷ names) = or_else (unknown snapshots name) (unknown_among snapshots names)

abbrev pub repo_list_in : Option Repo → List Card
repo_list_in None = []
repo_list_in (Some repo) = repo.list

-- the list of the repository of that name
abbrev pub repo_list_of : StateView → List ℕ → List Card
repo_list_of state name = repo_list_in (repo_of name state.repos)

-- ---- a new snapshot

-- a snapshot more, of this name and this list, where there is room for it
abbrev pub created : StateView → List ℕ → List Card → Came
created state name list = made state (own.snapshot_created name (length list)) name list

-- the same of what a merge makes, where it makes a list
abbrev pub created_from : StateView → List ℕ → Result (List Card) Refusal → Came
created_from state name (Ok list) = created state name list
created_from state name (Err refusal) = refuses refusal

-- an empty one
abbrev pub bad_empty : StateView → List ℕ → Option Refusal
bad_empty state name = or_else (bad_name name) (taken state.snapshots name)

abbrev pub empty_case : StateView → List ℕ → Case
empty_case state name = plain_case (bad_empty state name) (created state name [])

-- one of what a repository has now
abbrev pub bad_copy : StateView → List ℕ → List ℕ → Option Refusal
bad_copy state name repo = or_else (bad_name name) (or_else (bad_name repo) (or_else (taken state.snapshots name) (unknown_repo state.repos repo)))

abbrev pub copy_case : StateView → List ℕ → List ℕ → Case
copy_case state name repo = plain_case (bad_copy state name repo) (created state name (repo_list_of state repo))

-- one of what a mirror fetched last
abbrev pub bad_fetched : StateView → List ℕ → List ℕ → Option Refusal
bad_fetched state name mirror =
    or_else (bad_name name) (or_else (bad_name mirror) (or_else (taken state.snapshots name) (or_else (unknown_mirror state.mirrors mirror) (never_updated state mirror))))

abbrev pub fetched_case : StateView → List ℕ → List ℕ → Case
fetched_case state name mirror = plain_case (bad_fetched state name mirror) (created state name (fetched_list_of state mirror))

-- what queries choose of the snapshot of that name, with what that needs of it where dependencies are followed
abbrev pub chosen_for : StateView → Option Bool → PlainFollow → List ℕ → List (List ℕ) → List Card
chosen_for state deps follow name queries = chosen_with (unwrap_or deps false) follow (list_of state name) queries

-- one of what queries choose of another
abbrev pub bad_pair : StateView → List ℕ → List ℕ → Option Refusal
bad_pair state source destination =
    or_else (bad_name source) (or_else (bad_name destination) (or_else (taken state.snapshots destination) (unknown state.snapshots source)))

-- an architecture that is written can't be listed, or else that
abbrev pub bad_filter : StateView → PlainFollow → List ℕ → List ℕ → Option Refusal
bad_filter state follow source destination = or_else (bad_follow follow) (bad_pair state source destination)

abbrev pub filter_case : StateView → Option Bool → PlainFollow → List ℕ → List ℕ → List (List ℕ) → Case
filter_case state deps follow source destination queries =
    asking_case (bad_filter state follow source destination) queries (created state destination (chosen_for state deps follow source queries))

-- one of several, joined from left to right
abbrev pub bad_merge : StateView → List ℕ → List (List ℕ) → Option Refusal
bad_merge state destination sources =
    or_else (bad_name destination) (or_else (bad_among sources) (or_else (taken state.snapshots destination) (unknown_among state.snapshots sources)))

abbrev pub merge_case : StateView → Bool → Bool → List ℕ → List (List ℕ) → Case
merge_case state latest no_remove destination sources =
    plain_case (bad_merge state destination sources) (created_from state destination (merge_of (way_of latest no_remove) (map (list_of state) sources)))

-- ---- what is shown

abbrev pub shown : StateView → List ℕ → Bool → Option Snapshot → Came
shown state name packages (Some snapshot) = changes (replies.snapshot_show snapshot packages) state
shown state name packages None = refuses (Unknown kinds.Snapshot name)

abbrev pub show_case : StateView → Bool → List ℕ → Case
show_case state packages name = plain_case (bad_snapshot state name) (shown state name packages (snapshot_of name state.snapshots))

-- what a query chooses of a snapshot
abbrev pub bad_search : StateView → PlainFollow → List ℕ → Option Refusal
bad_search state follow name = or_else (bad_follow follow) (bad_snapshot state name)

abbrev pub search_case : StateView → Option Bool → PlainFollow → List ℕ → List ℕ → Case
search_case state deps follow name query =
    asking_case (bad_search state follow name) (query ∷ []) (changes (package_search (chosen_for state deps follow name (query ∷ []))) state)

-- ---- names

-- the same snapshot under another name
abbrev pub called : Snapshot → List ℕ → Snapshot
called snapshot name = record snapshot { name = name }

-- a snapshot has another name, in the sources of publications too
abbrev pub snapshot_renamed_in : StateView → List ℕ → List ℕ → StateView
snapshot_renamed_in state before after =
    record state {
      snapshots = renamed snapshot_name called before after state.snapshots;
      publications = map (source_renamed kinds.Snapshot before after) state.publications;
    }

abbrev pub bad_rename : StateView → List ℕ → List ℕ → Option Refusal
bad_rename state before after =
    or_else (bad_name before) (or_else (bad_name after) (or_else (taken state.snapshots after) (unknown state.snapshots before)))

abbrev pub rename_case : StateView → List ℕ → List ℕ → Case
rename_case state before after = plain_case (bad_rename state before after) (changes (own.snapshot_renamed before after) (snapshot_renamed_in state before after))

-- a snapshot that no publication uses is no more
abbrev pub without_snapshot : StateView → List ℕ → StateView
without_snapshot state name = record state { snapshots = dropped snapshot_name name state.snapshots }

abbrev pub bad_drop : StateView → List ℕ → Option Refusal
bad_drop state name = or_else (bad_name name) (or_else (unknown state.snapshots name) (in_use kinds.Snapshot name state.publications))

abbrev pub drop_case : StateView → List ℕ → Case
drop_case state name = plain_case (bad_drop state name) (changes (own.snapshot_dropped name) (without_snapshot state name))

-- ---- all of them

-- What each command of snapshots is in a state.
unfoldable pub snapshot_case : StateView → SnapshotCommand → Case
snapshot_case state (snapshot_create name origins.Empty) = empty_case state name
snapshot_case state (snapshot_create name (origins.Repo repo)) = copy_case state name repo
snapshot_case state (snapshot_create name (origins.Mirror mirror)) = fetched_case state name mirror
snapshot_case state snapshot_list = plain_case None (changes (replies.snapshot_list state.snapshots) state)
snapshot_case state (snapshot_show packages name) = show_case state (unwrap_or packages false) name
snapshot_case state (snapshot_filter deps follow source destination queries) = filter_case state deps follow source destination queries
snapshot_case state (snapshot_merge latest no_remove destination sources) = merge_case state (unwrap_or latest false) (unwrap_or no_remove false) destination sources
snapshot_case state (snapshot_pull all dry no_deps no_remove follow name source destination queries) = pull_case state dry (flags_of all no_deps no_remove follow) follow name source destination queries
snapshot_case state (snapshot_search deps follow name query) = search_case state deps follow name query
snapshot_case state (snapshot_rename before after) = rename_case state before after
snapshot_case state (snapshot_drop name) = drop_case state name
