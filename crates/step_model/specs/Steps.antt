-- What a command comes to, by its case.
use Rattle.std.specs.Prelude.{◌≡◌, ℕ, List, Option, Some, None}
use Rattle.run_model.specs.Run.{Outcome}
use Rattle.machine_state.specs.declared.refusal.Refusal.{Refusal}
use Rattle.machine_state.specs.declared.arrived.Arrived.{Arrived}
use Rattle.machine_state.specs.Values.{StateView}
use Rattle.step_model.specs.Case.{Case, Came, changes, refuses}
use Rattle.step_model.specs.Refuses.{Refuses}

-- a command that is done says its reply
abbrev pub done : List ℕ → StateView → Outcome StateView Refusal
done reply state = record { reply = reply; refusal = None; state = state }

-- Each refusal has a line that is said.
module _ (line : Refusal → List ℕ) where
  -- a refused command says why, and keeps the state
  abbrev pub refused : StateView → Refusal → Outcome StateView Refusal
  refused state refusal = record { reply = line refusal; refusal = Some refusal; state = state }

  abbrev pub outcome_of : StateView → Came → Outcome StateView Refusal
  outcome_of state (changes reply new) = done reply new
  outcome_of state (refuses refusal) = refused state refusal

  abbrev pub came_to : StateView → Case → Arrived → Option Refusal → Outcome StateView Refusal
  came_to state case arrived (Some refusal) = refused state refusal
  came_to state case arrived None = outcome_of state (case.comes arrived)

  -- the command comes to this with what arrived, in a call whose pattern builder refused this text for its size
  pub record StepWith (large : Option (List ℕ)) (state : StateView) (case : Case) (arrived : Arrived) (outcome : Outcome StateView Refusal) : Type 0 where
    pub refusal : Option Refusal
    pub refuses : Refuses large case refusal
    pub comes : outcome ≡ came_to state case arrived refusal
