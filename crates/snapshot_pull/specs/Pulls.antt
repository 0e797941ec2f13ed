-- What a pull is in a state.
use Rattle.std.specs.Prelude.{ℕ, ◌++◌, Bool, true, false, not, List, length, Option, Result, Ok, Err, nat_le, unwrap_or, if◌then◌else◌}
use Rattle.ap_host.specs.Disk.{Files}
use Rattle.package_core.specs.Card.{Card}
use Rattle.package_list.specs.declared.fault.ListFault.{ListFault}
use Rattle.package_list.specs.declared.fault.ListFault.TheVariants as faults
use Rattle.package_list.specs.Lists.{without}
use Rattle.command_value.specs.Plain.{PlainFollow}
use Rattle.depend_pull.specs.declared.flags.PullFlags.{PullFlags}
use Rattle.depend_pull.specs.Pull as pulls
use Rattle.machine_state.specs.declared.limit.Limit.TheVariants.{Packages, Snapshots}
use Rattle.machine_state.specs.Limits.{limit_number}
use Rattle.machine_state.specs.declared.refusal.Refusal.{Refusal}
use Rattle.machine_state.specs.declared.refusal.Refusal.TheVariants.{Conflict, Limit}
use Rattle.machine_state.specs.declared.arrived.Arrived.{Arrived}
use Rattle.machine_state.specs.Values.{StateView}
use Rattle.package_choice.specs.Choice.{archs_for, bad_follow, trees_of}
use Rattle.reply_text.specs.DryRuns.{dry_run_of}
use Rattle.step_model.specs.declared.reading.Reading.{Reading}
use Rattle.step_model.specs.Case.{Case, Came, changes, refuses, or_else, asking_case}
use Rattle.step_model.specs.Names.{bad_name}
use Rattle.snapshot_pull.specs.Replies.{snapshot_pulled}
use Rattle.snapshot_pull.specs.Snapshots.{list_of, made, taken, unknown, where_room}

-- ---- what is refused

-- the limit that is passed where a list would be too long: the first of the limits where there is no room for a snapshot more either
abbrev pub too_long : StateView → Refusal
too_long state = if nat_le (limit_number Snapshots) (length state.snapshots) then Limit Snapshots else Limit Packages

-- a list that refuses others refuses so (memory isn't wanted here)
abbrev pub pull_refused : StateView → Result (Unit {0}) ListFault → Result (Unit {0}) Refusal
pull_refused state (Ok u) = Ok tt
pull_refused state (Err (faults.Conflict triple)) = Err (Conflict triple)
pull_refused state (Err faults.Full) = Err (too_long state)
pull_refused state (Err faults.OutOfMemory) = Err (too_long state)

-- what a command comes to where it isn't refused so
abbrev pub came_or : Result (Unit {0}) Refusal → Came → Came
came_or (Ok u) came = came
came_or (Err refusal) came = refuses refusal

-- The name of the base, of the source or of what is made is none; there is a snapshot of the last name already; there is none of the first
-- or of the second.
abbrev pub bad_ends : StateView → (name source destination : List ℕ) → Option Refusal
bad_ends state name source destination =
    or_else (bad_name name) (or_else (bad_name source) (or_else (bad_name destination)
    (or_else (taken state.snapshots destination) (or_else (unknown state.snapshots name) (unknown state.snapshots source)))))

-- an architecture that is written can't be listed, or else that
abbrev pub bad_pull : StateView → PlainFollow → (name source destination : List ℕ) → Option Refusal
bad_pull state follow name source destination = or_else (bad_follow follow) (bad_ends state name source destination)

-- ---- what is made

-- what a pull is asked for by its flags; one that isn't written asks for nothing
abbrev pub flags_of : (all_matches no_deps no_remove : Option Bool) → PlainFollow → PullFlags
flags_of all_matches no_deps no_remove follow =
    record {
      deps = not (unwrap_or no_deps false);
      remove = not (unwrap_or no_remove false);
      all_matches = unwrap_or all_matches false;
      recommends = unwrap_or follow.recommends false;
      suggests = unwrap_or follow.suggests false;
    }

-- What the queries take of the source for the base. Its architectures are those that are written, or else those of both lists.
abbrev pub taken_for : PullFlags → Option (List (List ℕ)) → (base source : List Card) → List (List ℕ) → List Card
taken_for flags archs base source queries = pulls.taken flags (archs_for archs (base ++ source)) base source (trees_of queries)

-- What the pull comes to where the base becomes this list: a new snapshot, and how many packages came and went; or, in a dry run, which.
abbrev pub became : StateView → Bool → List ℕ → (base list : List Card) → Came
became state true destination base list = where_room state (changes (dry_run_of (without base list) (without list base)) state)
became state false destination base list = made state (snapshot_pulled destination (length list) (length (without list base)) (length (without base list))) destination list

-- what it comes to where these are taken
abbrev pub pulled_onto : StateView → Bool → Bool → List ℕ → (base more : List Card) → Came
pulled_onto state dry remove destination base more = came_or (pull_refused state (pulls.pull_answer remove base more)) (became state dry destination base (pulls.pulled remove base more))

-- ---- the command

-- what a pull of the source onto the base is in a state
unfoldable pub pull_case : StateView → (dry : Option Bool) → PullFlags → PlainFollow → (name source destination : List ℕ) → (queries : List (List ℕ)) → Case
pull_case state dry flags follow name source destination queries =
    asking_case (bad_pull state follow name source destination) queries
    (pulled_onto state (unwrap_or dry false) flags.remove destination (list_of state name) (taken_for flags follow.architectures (list_of state name) (list_of state source) queries))

-- a pull looks at nothing that arrives
abbrev pub MayArrive : Option Files → StateView → Reading → Arrived → Type 0
MayArrive inbox state reading arrived = Unit {0}
