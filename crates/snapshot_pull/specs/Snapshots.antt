-- Snapshots that are there, and new ones.
use Rattle.std.specs.Prelude.{ℕ, List, [], length, Option, Some, None, nat_le, if◌then◌else◌}
use Rattle.std.specs.Option.{is_some}
use Rattle.package_core.specs.Card.{Card}
use Rattle.machine_state.specs.declared.limit.Kind.TheVariants as kinds
use Rattle.machine_state.specs.declared.limit.Limit.TheVariants.{Snapshots}
use Rattle.machine_state.specs.declared.refusal.Refusal.{Refusal}
use Rattle.machine_state.specs.declared.refusal.Refusal.TheVariants.{Exists, Unknown, Limit}
use Rattle.machine_state.specs.declared.snapshot.Snapshot.{Snapshot}
use Rattle.machine_state.specs.Ascending.{put}
use Rattle.machine_state.specs.Limits.{limit_number}
use Rattle.machine_state.specs.State.{snapshot_cmp, snapshot_of}
use Rattle.machine_state.specs.Values.{StateView}
use Rattle.step_model.specs.Case.{Came, changes, refuses}

-- ---- what is there

-- a snapshot has the name already
abbrev pub taken : List Snapshot → List ℕ → Option Refusal
taken snapshots name = if is_some (snapshot_of name snapshots) then Some (Exists kinds.Snapshot name) else None

-- no snapshot has the name
abbrev pub unknown : List Snapshot → List ℕ → Option Refusal
unknown snapshots name = if is_some (snapshot_of name snapshots) then None else Some (Unknown kinds.Snapshot name)

abbrev pub list_in : Option Snapshot → List Card
list_in None = []
list_in (Some snapshot) = snapshot.list

-- the list of the snapshot of that name
abbrev pub list_of : StateView → List ℕ → List Card
list_of state name = list_in (snapshot_of name state.snapshots)

-- ---- a new one

abbrev pub snapshot_from : List ℕ → List Card → Snapshot
snapshot_from name list = record { name = name; list = list }

-- the state with one snapshot more
abbrev pub with_snapshot : StateView → Snapshot → StateView
with_snapshot state snapshot = record state { snapshots = put snapshot_cmp snapshot state.snapshots }

-- what a command comes to where there is room for one snapshot more
abbrev pub where_room : StateView → Came → Came
where_room state came = if nat_le (limit_number Snapshots) (length state.snapshots) then refuses (Limit Snapshots) else came

-- a snapshot more, of this name and this list, of which this is said
abbrev pub made : StateView → List ℕ → List ℕ → List Card → Came
made state reply name list = where_room state (changes reply (with_snapshot state (snapshot_from name list)))
