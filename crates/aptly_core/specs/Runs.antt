-- What one command, and a list of commands, add to the log. Told says which text the call's pattern builder may have refused for
-- its size.
use Rattle.std.specs.Prelude.{◌≡◌, ℕ, List, [], ◌∷◌, ◌++◌, Option, Some, None, Result, Ok, Err, IfOk}
use Rattle.ap_host.specs.declared.host.Op.{Op}
use Rattle.ap_host.specs.declared.host.HostErr.{HostErr}
use Rattle.ap_host.specs.declared.host.HostErr.TheVariants as errors
use Rattle.ap_host.specs.Disk.{Log, extended, live_of, said}
use Rattle.ap_host.specs.Changes.{EachOp}
use Rattle.command_words.specs.Plain.{PlainCommand}
use Rattle.run_model.specs.Run.{Outcome, Ran, AtRest, Runs, EndsAs}
use Rattle.stage_file.specs.Stage.{StageState, IsInStep}
use Rattle.machine_state.specs.declared.refusal.Refusal.{Refusal}
use Rattle.machine_state.specs.State.{Valid}
use Rattle.machine_step.specs.Step.{Given}
use Rattle.reply_text.specs.Refusals.{refusal_line}
use Rattle.aptly_core.specs.declared.fault.RunFault.{RunFault}
use Rattle.aptly_core.specs.declared.fault.RunFault.TheVariants.{HostFault, InboxFault, OutOfMemory}
use Rattle.aptly_core.specs.declared.status.Status.{Status}
use Rattle.aptly_core.specs.declared.status.Status.TheVariants as statuses
use Rattle.aptly_core.specs.Machine.{Place, machine, Steps, IsWork}
use Rattle.aptly_core.specs.Apart.{BodiesApart}
use Rattle.catalogue_root.specs.Store.{store}

-- the fault of a run whose host gave this error
abbrev pub of_host : HostErr → RunFault
of_host errors.Failed = HostFault
of_host errors.OutOfMemory = OutOfMemory

-- the command comes to this state and this refusal
abbrev pub ComesTo : Given → (Option (List ℕ) → Type 0) → Place → PlainCommand → Place × Option Refusal → Type 0
ComesTo given Told state command done = Valid done.0 × (reply : List ℕ) × (large : Option (List ℕ)) × Told large × Steps given large state command (record { reply = reply; refusal = done.1; state = done.0 })

-- the command that ended, or broke off
abbrev pub RanOne : Given → (Option (List ℕ) → Type 0) → Log → Place → PlainCommand → Result (Place × Option Refusal) RunFault → List Op → Type 0
RanOne given Told l state command (Ok done) ops = (large : Option (List ℕ)) × Told large × Ran (machine given) large l state (command ∷ []) (Some done) ops
RanOne given Told l state command (Err fault) ops = (large : Option (List ℕ)) × Told large × Ran (machine given) large l state (command ∷ []) None ops

-- Where a command may begin: each image is settled for the state, what the stage hasn't touched is durable, the inbox tells its
-- files, and SHA-256 tells these and the pool's files apart.
pub record MayRun (given : Given) (state : Place) (stage : StageState) (l : Log) : Type 0 where
  pub rest : AtRest store state l
  pub step : IsInStep stage l
  pub apart : BodiesApart given.inbox (live_of l)

-- One command: on any log its kinds of operations; from a valid state, at Ok, that its reply was said; and where it may begin, that
-- it ran, and that a next one may begin.
pub record RunsOne (given : Given) (Told : Option (List ℕ) → Type 0) (state : Place) (command : PlainCommand) (before now : StageState) (result : Result (Place × Option Refusal) RunFault) (l : Log) (ops : List Op) : Type 0 where
  pub work : EachOp IsWork ops
  pub says : Valid state → IfOk result (λ done. (large : Option (List ℕ)) × Told large × Steps given large state command (record { reply = said ops; refusal = done.1; state = done.0 }))
  pub ran : MayRun given state before l → RanOne given Told l state command result ops
  pub on : MayRun given state before l → IfOk result (λ done. MayRun given done.0 now (extended ops l))

-- the commands, from this state, come to the end that the status tells
abbrev pub EndsWith : Given → (Option (List ℕ) → Type 0) → Place → List PlainCommand → Status → Type 0
EndsWith given Told state commands statuses.Done = (large : Option (List ℕ)) × Told large × (outcomes : List (Outcome Place Refusal)) × Runs (machine given) large state commands outcomes × EndsAs commands outcomes None
EndsWith given Told state commands (statuses.Refused refusal) = (large : Option (List ℕ)) × Told large × (outcomes : List (Outcome Place Refusal)) × Runs (machine given) large state commands outcomes × EndsAs commands outcomes (Some refusal)
EndsWith given Told state commands _ = Unit {0}

-- a call of commands that ended
abbrev pub IsEnd : Status → Type 0
IsEnd statuses.Done = Unit {0}
IsEnd (statuses.Refused refusal) = Unit {0}
IsEnd _ = ⊥

-- from some valid state the commands come to the end that the status tells
abbrev pub EndsFrom : Given → (Option (List ℕ) → Type 0) → List PlainCommand → Status → Type 0
EndsFrom given Told commands status = (state : Place) × Valid state × EndsWith given Told state commands status

-- what a list of commands that ends with this status did
abbrev pub RanAs : Given → Option (List ℕ) → Log → Place → List PlainCommand → Status → List Op → Type 0
RanAs given large l state commands statuses.Done ops = (end : Place) × Ran (machine given) large l state commands (Some (end, None)) ops
RanAs given large l state commands (statuses.Refused refusal) ops = (end : Place) × Ran (machine given) large l state commands (Some (end, Some refusal)) ops
RanAs given large l state commands _ ops = Ran (machine given) large l state commands None ops

abbrev pub RanTo : Given → (Option (List ℕ) → Type 0) → Log → Place → List PlainCommand → Status → List Op → Type 0
RanTo given Told l state commands status ops = (large : Option (List ℕ)) × Told large × RanAs given large l state commands status ops

-- a status that a list of commands may end with
abbrev pub IsRunStatus : Status → Type 0
IsRunStatus statuses.Done = Unit {0}
IsRunStatus (statuses.Refused refusal) = Unit {0}
IsRunStatus statuses.HostFault = Unit {0}
IsRunStatus statuses.InboxFault = Unit {0}
IsRunStatus statuses.OutOfMemory = Unit {0}
IsRunStatus _ = ⊥

-- the line of the refusal was said last
abbrev pub SaysRefusal : Refusal → List Op → Type 0
SaysRefusal refusal ops = (front : List ℕ) × (said ops ≡ front ++ refusal_line refusal)

-- A list of commands, up to the first refused one.
pub record RunsList (given : Given) (Told : Option (List ℕ) → Type 0) (state : Place) (commands : List PlainCommand) (before : StageState) (status : Status) (l : Log) (ops : List Op) : Type 0 where
  pub work : EachOp IsWork ops
  pub refused : Valid state → (refusal : Refusal) → status ≡ statuses.Refused refusal → SaysRefusal refusal ops
  pub ran : MayRun given state before l → RanTo given Told l state commands status ops

abbrev pub status_of_fault : RunFault → Status
status_of_fault HostFault = statuses.HostFault
status_of_fault InboxFault = statuses.InboxFault
status_of_fault OutOfMemory = statuses.OutOfMemory

-- the state after a command, or the status that ends the list
abbrev pub next_of_done : Place × Option Refusal → Result Place Status
next_of_done (state, None) = Ok state
next_of_done (state, Some refusal) = Err (statuses.Refused refusal)

-- a status that one command may end a list with
abbrev pub IsTurnEnd : Status → Type 0
IsTurnEnd (statuses.Refused refusal) = Unit {0}
IsTurnEnd statuses.HostFault = Unit {0}
IsTurnEnd statuses.InboxFault = Unit {0}
IsTurnEnd statuses.OutOfMemory = Unit {0}
IsTurnEnd _ = ⊥

-- what a command that isn't refused comes to hangs on no text that was too large
abbrev pub TurnComes : Given → (Option (List ℕ) → Type 0) → Place → PlainCommand → Result Place Status → Type 0
TurnComes given Told state command (Ok next) = Valid next × (reply : List ℕ) × ((large : Option (List ℕ)) → Steps given large state command (record { reply = reply; refusal = None; state = next }))
TurnComes given Told state command (Err (statuses.Refused refusal)) = (next : Place) × ComesTo given Told state command (next, Some refusal)
TurnComes given Told state command (Err _) = Unit {0}

abbrev pub TurnRan : Given → (Option (List ℕ) → Type 0) → Log → Place → PlainCommand → Result Place Status → List Op → Type 0
TurnRan given Told l state command (Ok next) ops = (large : Option (List ℕ)) → Ran (machine given) large l state (command ∷ []) (Some (next, None)) ops
TurnRan given Told l state command (Err (statuses.Refused refusal)) ops = (large : Option (List ℕ)) × Told large × (next : Place) × Ran (machine given) large l state (command ∷ []) (Some (next, Some refusal)) ops
TurnRan given Told l state command (Err _) ops = (large : Option (List ℕ)) × Told large × Ran (machine given) large l state (command ∷ []) None ops

-- one command of a list
pub record Turns (given : Given) (Told : Option (List ℕ) → Type 0) (state : Place) (command : PlainCommand) (before now : StageState) (result : Result Place Status) (l : Log) (ops : List Op) : Type 0 where
  pub work : EachOp IsWork ops
  pub refused : Valid state → (refusal : Refusal) → result ≡ Err (statuses.Refused refusal) → said ops ≡ refusal_line refusal
  pub ran : MayRun given state before l → TurnRan given Told l state command result ops
  pub on : MayRun given state before l → IfOk result (λ next. MayRun given next now (extended ops l))
