-- What the calls of a command answer in a valid state.
use Rattle.std.specs.Prelude.{ℕ, List, Option, Some, None, Result, IfOk, IfErr}
use Rattle.machine_state.specs.declared.arrived.Arrived.{Arrived}
use Rattle.machine_state.specs.declared.change.Change.{Change}
use Rattle.machine_state.specs.declared.change.ChangeFault.{ChangeFault}
use Rattle.machine_state.specs.State.{Valid}
use Rattle.machine_state.specs.Values.{StateView}
use Rattle.step_model.specs.declared.reading.Reading.{Reading}
use Rattle.step_model.specs.Answers.{came, ComesTo, FaultIs, IsNew, IsRefusedFor, IsWanted, Told}
use Rattle.step_model.specs.Case.{Case}
use Rattle.step_model.specs.Refuses.{Refuses}

module _ (state : StateView) (case : Case) where
  -- a change is what the command comes to
  abbrev pub IsDone : Result Change ChangeFault → Type 0
  IsDone result = (arrived : Arrived) → Valid state → IfOk result (λ change. ComesTo None case arrived (came state change))

  -- a refusal is the command's
  abbrev pub IsRefused : Result Change ChangeFault → Type 0
  IsRefused result = (arrived : Arrived) → Valid state → IfErr result (FaultIs (IsRefusedFor None case arrived))

  -- the same of a command with patterns, in a call in which the count of those that were refused for their size and the refused text went so
  abbrev pub IsRefusedTold : ℕ → ℕ → Option (List ℕ) → Result Change ChangeFault → Type 0
  IsRefusedTold old new refused result =
      (arrived : Arrived) → Valid state → IfErr result (FaultIs (λ refusal. Told old new refused (λ large. IsRefusedFor large case arrived refusal)))

  -- what is to be read for the command
  abbrev pub IsNeeded : Result Reading ChangeFault → Type 0
  IsNeeded result = Valid state → IfOk result (IsWanted None case)

  -- it is refused before anything is read
  abbrev pub IsBarred : Result Reading ChangeFault → Type 0
  IsBarred result = Valid state → IfErr result (FaultIs (λ refusal. Refuses None case (Some refusal)))

  abbrev pub IsBarredTold : ℕ → ℕ → Option (List ℕ) → Result Reading ChangeFault → Type 0
  IsBarredTold old new refused result = Valid state → IfErr result (FaultIs (λ refusal. Told old new refused (λ large. Refuses large case (Some refusal))))

-- a state that is told is another one
abbrev pub IsOther : StateView → Result Change ChangeFault → Type 0
IsOther state result = Valid state → IfOk result (λ change. IsNew state change.state)
