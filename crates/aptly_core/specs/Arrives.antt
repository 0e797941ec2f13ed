-- What the deciding of a command adds to the log: the files that it takes in.
use Rattle.std.specs.Prelude.{◌≡◌, ℤ, List, [], All, Option, Result, Ok, Err, IfOk, IfSome}
use Rattle.ap_host.specs.declared.host.Op.{Op}
use Rattle.ap_host.specs.Disk.{Files, Log, extended, live_of}
use Rattle.stage_file.specs.Stage.{StageState, IsInStep}
use Rattle.hash_pool.specs.Growth.{PoolGrows}
use Rattle.machine_state.specs.declared.arrived.Arrived.{Arrived}
use Rattle.machine_state.specs.declared.arrived.Arrived.TheVariants as arrivals
use Rattle.machine_state.specs.declared.arrived.UpdateFault.{UpdateFault}
use Rattle.machine_state.specs.declared.arrived.UpdateFault.TheVariants as updates
use Rattle.machine_state.specs.Values.{StateView}
use Rattle.command_words.specs.Plain.{PlainCommand}
use Rattle.machine_step.specs.declared.outcome.Outcome.{Outcome}
use Rattle.machine_step.specs.Step.{Given, NoArchive, read_for}
use Rattle.step_model.specs.declared.reading.Reading.{Reading}
use Rattle.step_model.specs.declared.reading.Reading.TheVariants as readings
use Rattle.step_model.specs.Lawful.{list_in}
use Rattle.hash_pool.specs.Bodies.{HasBody}
use Rattle.aptly_core.specs.declared.fault.RunFault.{RunFault}
use Rattle.aptly_core.specs.declared.fault.RunFault.TheVariants.{HostFault, InboxFault, OutOfMemory}
use Rattle.aptly_core.specs.Apart.{BodiesApart}
use Rattle.catalogue_root.specs.Store.{Stored}

-- a refusal of what was read has arrived too
abbrev pub arrived_of : Result Arrived UpdateFault → Result Arrived RunFault
arrived_of (Ok arrived) = Ok arrived
arrived_of (Err (updates.Refused refusal)) = Ok (arrivals.Refused refusal)
arrived_of (Err updates.HostFault) = Err HostFault
arrived_of (Err updates.InboxFault) = Err InboxFault
arrived_of (Err updates.OutOfMemory) = Err OutOfMemory

-- Files were taken into the pool, all that arrived among them. Where nothing is to be read, nothing was done.
pub record Arrives (input : Option Files) (state : StateView) (reading : Reading) (before now : StageState) (result : Result Arrived RunFault) (l : Log) (ops : List Op) : Type 0 where
  pub grows : PoolGrows l ops
  pub nothing : reading ≡ readings.Nothing → ops ≡ []
  pub step : IsInStep before l → IsInStep now (extended ops l)
  pub apart : BodiesApart input (live_of l) → BodiesApart input (live_of (extended ops l))
  pub bodies : IfOk result (λ arrived. Stored (live_of l) state → BodiesApart input (live_of l) → All (HasBody (live_of (extended ops l))) (list_in arrived))

-- the reading is that of the command
abbrev pub IsReading : ℤ → StateView → PlainCommand → Reading → Type 0
IsReading now state command reading = reading ≡ read_for now state command

-- the same of a reading of no archive
abbrev pub ReadsSo : ℤ → StateView → PlainCommand → Reading → Type 0
ReadsSo now state command reading = NoArchive reading × IsReading now state command reading

-- Files were taken into the pool, all that the new state knows among them; none where the command reads nothing. This is for a
-- command of which Fits holds.
pub record Decides (Fits : Type 0) (given : Given) (state : StateView) (command : PlainCommand) (before now : StageState) (result : Result Outcome RunFault) (l : Log) (ops : List Op) : Type 0 where
  pub grows : PoolGrows l ops
  pub nothing : Fits → read_for given.now state command ≡ readings.Nothing → ops ≡ []
  pub step : IsInStep before l → IsInStep now (extended ops l)
  pub apart : BodiesApart given.inbox (live_of l) → BodiesApart given.inbox (live_of (extended ops l))
  pub bodies : IfOk result (λ outcome. Fits → Stored (live_of l) state → BodiesApart given.inbox (live_of l) → IfSome outcome.state (λ next. All (HasBody (live_of (extended ops l))) next.known))
