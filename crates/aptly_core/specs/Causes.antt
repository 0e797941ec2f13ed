-- Why a call of commands is refused, whatever its host and its inbox tell.
use Rattle.std.specs.Prelude.{◌≡◌, ◌∷◌, ◌++◌, ℕ, ℤ, List, Contains, Some}
use Rattle.command_words.specs.Plain.{PlainCommand}
use Rattle.machine_state.specs.Values.{StateView}
use Rattle.step_model.specs.Case.{Condition}
use Rattle.step_model.specs.Refuses.{ArePatterns}
use Rattle.machine_step.specs.Step.{asked_conditions}
use Rattle.aptly_core.specs.Calls.{asked}

-- P of one of the commands that the words ask for
abbrev pub AsksFor : List (List ℕ) → (PlainCommand → Type 0) → Type 0
AsksFor words P = (commands : List PlainCommand) × (command : PlainCommand) × (asked words ≡ Some commands) × Contains commands command × P command

-- At some moment, in some state, the `~` condition of this number in the query of this number that the command asks has this text, and each
-- condition before it is a pattern. Both numbers are counted from 1; the filter of a mirror that is updated counts as the first query.
abbrev pub HasCondition : ℕ → ℕ → List ℕ → PlainCommand → Type 0
HasCondition query test text command =
    (now : ℤ) × (state : StateView) × (before : List Condition) × (behind : List Condition)
    × (asked_conditions now state command ≡ before ++ record { query = query; test = test; text = text } ∷ behind) × ArePatterns before
