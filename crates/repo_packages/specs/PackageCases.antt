-- The commands that give a repository other packages: what each is in a state.
use Rattle.std.specs.Prelude.{◌≡◌, ℕ, ◌-◌, ◌++◌, Bool, false, List, [], length, Option, Some, None, Result, Ok, Err, unwrap_or, if◌then◌else◌}
use Rattle.std.specs.Option.{is_some}
use Rattle.ap_host.specs.Disk.{Files}
use Rattle.package_core.specs.Card.{Card}
use Rattle.package_intake.specs.Steps.{or_refused}
use Rattle.package_list.specs.Answers.{append_answer}
use Rattle.package_list.specs.Lists.{union, without}
use Rattle.command_value.specs.Plain.{PlainFollow}
use Rattle.machine_state.specs.declared.limit.Limit.TheVariants.{Packages}
use Rattle.machine_state.specs.declared.limit.Kind.TheVariants as kinds
use Rattle.machine_state.specs.declared.refusal.Refusal.{Refusal}
use Rattle.machine_state.specs.declared.refusal.Refusal.TheVariants.{Unknown, NotBuilt}
use Rattle.machine_state.specs.declared.arrived.Arrived.{Arrived}
use Rattle.machine_state.specs.declared.arrived.Arrived.TheVariants as arrivals
use Rattle.machine_state.specs.declared.repo.Repo.{Repo}
use Rattle.machine_state.specs.Named.{changed}
use Rattle.machine_state.specs.State.{repo_name, repo_of}
use Rattle.machine_state.specs.Values.{StateView}
use Rattle.reply_text.specs.Replies as replies
use Rattle.step_model.specs.declared.reading.Reading.{Reading}
use Rattle.step_model.specs.declared.reading.Reading.TheVariants as readings
use Rattle.step_model.specs.Case.{Case, Came, changes, refuses, or_else, asking_case}
use Rattle.step_model.specs.Lawful.{CommandLaw}
use Rattle.step_model.specs.Queries.{chosen}
use Rattle.step_model.specs.Names.{bad_name, bad_folder}
use Rattle.step_model.specs.Refuses.{IsReadable, reading}
use Rattle.package_intake.specs.Answers.{IsArrival}
use Rattle.package_intake.specs.Arrival.{list_of}
use Rattle.package_intake.specs.Fits.{added}
use Rattle.mirror_lists.specs.Mirrors.{fetched_list_of, never_updated, unknown_mirror}
use Rattle.package_choice.specs.Choice.{bad_follow, chosen_with}
use Rattle.repo_packages.specs.PackageReplies as own

-- ---- repositories by name

-- no repository has the name
abbrev pub unknown : List Repo → List ℕ → Option Refusal
unknown repos name = if is_some (repo_of name repos) then None else Some (Unknown kinds.Repo name)

-- the text is no name, or no repository has it
abbrev pub bad_repo : StateView → List ℕ → Option Refusal
bad_repo state name = or_else (bad_name name) (unknown state.repos name)

-- the repository of that name is this one
abbrev pub Finds : StateView → List ℕ → Repo → Type 0
Finds state name repo = repo_of name state.repos ≡ Some repo

-- the repository of that name, changed so, and the others as they were
abbrev pub changed_in : List ℕ → (Repo → Repo) → List Repo → List Repo
changed_in = changed repo_name

-- ---- packages that arrived

-- the reply where a list has been joined to this one
abbrev pub added_reply : List ℕ → List Card → List Card → List ℕ
added_reply name own all = replies.repo_added name (length all - length own) (length all)

-- what arrived is added to the repository
abbrev pub taken_in : StateView → List ℕ → Arrived → Came
taken_in state name (arrivals.List list date) = changes (added_reply name (list_of state name) (union (list_of state name) list)) (added state name list)
taken_in state name (arrivals.Refused refusal) = refuses refusal
taken_in state name arrivals.Nothing = refuses NotBuilt

-- ---- packages by queries

-- the repository with this list
abbrev pub with_list : List Card → Repo → Repo
with_list list repo = record repo { list = list }

-- the state where the repository of that name has this list
abbrev pub listed : StateView → List ℕ → List Card → StateView
listed state name list = record state { repos = changed_in name (with_list list) state.repos }

-- what is chosen of the repository of that name
abbrev pub chosen_of : StateView → List ℕ → List (List ℕ) → List Card
chosen_of state name queries = chosen (list_of state name) queries

-- packages leave the repository
abbrev pub removal : StateView → Bool → List ℕ → List Card → Came
removal state dry name gone =
    if dry then changes (own.dry_run_of gone []) state
    else changes (own.repo_removed name (length gone) (length (without (list_of state name) gone))) (listed state name (without (list_of state name) gone))

-- what the command comes to, or its refusal
abbrev pub came_or : Result (Unit {0}) Refusal → Came → Came
came_or (Ok u) came = came
came_or (Err refusal) came = refuses refusal

-- packages join the repository of this name, where they can
abbrev pub joining : StateView → List ℕ → List Card → Came → Came
joining state name more came = came_or (or_refused Packages (append_answer (list_of state name) more)) came

-- the packages can't join the list, for this
abbrev pub IsJoinRefusal : List Card → List Card → Refusal → Type 0
IsJoinRefusal own more refusal = or_refused Packages (append_answer own more) ≡ Err refusal

-- copies: they join the destination
abbrev pub copying : StateView → Bool → List ℕ → List Card → Came
copying state dry destination more =
    if dry then changes (own.dry_run_of [] (without more (list_of state destination))) state
    else changes (added_reply destination (list_of state destination) (union (list_of state destination) more)) (listed state destination (union (list_of state destination) more))

-- what is said of a move: the line of the destination, and then that of the source
abbrev pub moved_reply : StateView → List ℕ → List ℕ → List Card → List ℕ
moved_reply state source destination more =
    added_reply destination (list_of state destination) (union (list_of state destination) more)
    ++ own.repo_removed source (length more) (length (without (list_of state source) more))

-- moves: they join the destination, and leave the source
abbrev pub moving : StateView → Bool → List ℕ → List ℕ → List Card → Came
moving state dry source destination more =
    if dry then changes (own.dry_run_of more (without more (list_of state destination))) state
    else changes (moved_reply state source destination more)
    (listed (listed state destination (union (list_of state destination) more)) source (without (list_of state source) more))

-- the two repositories of a copy or a move are named and there
abbrev pub bad_pair : StateView → List ℕ → List ℕ → Option Refusal
bad_pair state source destination = or_else (bad_name source) (or_else (bad_name destination) (or_else (unknown state.repos source) (unknown state.repos destination)))

-- the architectures that are written can be listed, and then so
abbrev pub bad_transfer : StateView → PlainFollow → List ℕ → List ℕ → Option Refusal
bad_transfer state follow source destination = or_else (bad_follow follow) (bad_pair state source destination)

-- what is chosen of the repository of that name, with what that needs of it where dependencies are followed
abbrev pub chosen_for : StateView → Option Bool → PlainFollow → List ℕ → List (List ℕ) → List Card
chosen_for state deps follow name queries = chosen_with (unwrap_or deps false) follow (list_of state name) queries

-- a copy or a move of what these queries choose, which comes to this where it can be joined
abbrev pub pair_case : StateView → Option Bool → PlainFollow → List ℕ → List ℕ → List (List ℕ) → Came → Case
pair_case state deps follow source destination queries came =
    asking_case (bad_transfer state follow source destination) queries (joining state destination (chosen_for state deps follow source queries) came)

-- the mirror and the repository of an import are named and there
abbrev pub bad_places : StateView → List ℕ → List ℕ → Option Refusal
bad_places state mirror repo = or_else (bad_name mirror) (or_else (bad_name repo) (or_else (unknown_mirror state.mirrors mirror) (unknown state.repos repo)))

-- the architectures that are written can be listed, and then so
abbrev pub bad_import : StateView → PlainFollow → List ℕ → List ℕ → Option Refusal
bad_import state follow mirror repo = or_else (bad_follow follow) (bad_places state mirror repo)

-- what is chosen of what the mirror of that name fetched last, with what that needs of it where dependencies are followed
abbrev pub imported : StateView → Option Bool → PlainFollow → List ℕ → List (List ℕ) → List Card
imported state deps follow mirror queries = chosen_with (unwrap_or deps false) follow (fetched_list_of state mirror) queries

-- what is chosen of the mirror joins the repository
abbrev pub importing : StateView → Bool → List ℕ → List Card → Came
importing state dry repo more = joining state repo more (copying state dry repo more)

-- ---- the commands

-- what `repo add` is in a state
unfoldable pub addition_case : StateView → List ℕ → List ℕ → Case
addition_case state name folder =
    record {
      early = or_else (bad_name name) (or_else (bad_folder folder) (unknown state.repos name));
      conditions = [];
      late = None;
      reads = readings.Folder name folder;
      comes = taken_in state name;
    }

-- what `repo remove` is in a state
unfoldable pub removal_case : StateView → Option Bool → List ℕ → List (List ℕ) → Case
removal_case state dry name queries =
    asking_case (bad_repo state name) queries (removal state (unwrap_or dry false) name (chosen_of state name queries))

-- what `repo copy` is in a state
unfoldable pub copy_case : StateView → Option Bool → Option Bool → PlainFollow → List ℕ → List ℕ → List (List ℕ) → Case
copy_case state dry deps follow source destination queries =
    pair_case state deps follow source destination queries (copying state (unwrap_or dry false) destination (chosen_for state deps follow source queries))

-- what `repo move` is in a state
unfoldable pub move_case : StateView → Option Bool → Option Bool → PlainFollow → List ℕ → List ℕ → List (List ℕ) → Case
move_case state dry deps follow source destination queries =
    pair_case state deps follow source destination queries (moving state (unwrap_or dry false) source destination (chosen_for state deps follow source queries))

-- What `repo import` is in a state. Of a mirror that was never updated it is refused so behind its patterns.
unfoldable pub import_case : StateView → Option Bool → Option Bool → PlainFollow → List ℕ → List ℕ → List (List ℕ) → Case
import_case state dry deps follow mirror repo queries =
    record (asking_case (bad_import state follow mirror repo) queries (importing state (unwrap_or dry false) repo (imported state deps follow mirror queries))) {
      late = never_updated state mirror;
    }

-- what may arrive where this is read: of an inbox that tells its files what they hold, and of another what fits
abbrev pub MayArrive : Option Files → StateView → Reading → Arrived → Type 0
MayArrive inbox state readings.Nothing arrived = arrived ≡ arrivals.Nothing
MayArrive inbox state (readings.Folder name folder) arrived = IsArrival inbox state name folder arrived
MayArrive inbox state (readings.Mirror name) arrived = ⊥

-- what may arrive for a command
abbrev pub ArrivesFor : Option Files → StateView → Case → Arrived → Type 0
ArrivesFor inbox state case arrived = MayArrive inbox state (reading case) arrived

-- The command keeps to the law of commands, and what is read for it can be read.
abbrev pub KeepsTo : (StateView → Case) → Type 0
KeepsTo case = CommandLaw case MayArrive × ((state : StateView) → IsReadable (reading (case state)))
