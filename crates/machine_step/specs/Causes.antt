-- Why a command is refused.
use Rattle.std.specs.Prelude.{◌≡◌, ◌⊎◌, ℕ, ℤ, List, Option}
use Rattle.command_words.specs.Plain.{PlainCommand}
use Rattle.machine_state.specs.declared.refusal.Refusal.{Refusal}
use Rattle.machine_state.specs.declared.refusal.Refusal.TheVariants.{NotBuilt}
use Rattle.machine_state.specs.Values.{StateView}
use Rattle.step_model.specs.Case.{unbuilt}
use Rattle.step_model.specs.Lawful.{IsOwn}
use Rattle.step_model.specs.Refuses.{IsPatternRefusal}
use Rattle.machine_step.specs.Step.{asked_conditions, case_of}

-- the command isn't built: at no moment, in no state
abbrev pub IsUnbuilt : PlainCommand → Type 0
IsUnbuilt command = (now : ℤ) (state : StateView) → case_of now state command ≡ unbuilt

-- the first of the conditions that the command asks which can't be built is told
abbrev pub TellsPattern : ℤ → Option (List ℕ) → StateView → PlainCommand → Refusal → Type 0
TellsPattern now large state command refusal = IsPatternRefusal large (asked_conditions now state command) refusal

-- The refusal is one of the command's own, or of a command that isn't built, or of one of its patterns, in a call whose pattern builder
-- refused this text for its size.
abbrev pub IsCause : ℤ → Option (List ℕ) → StateView → PlainCommand → Refusal → Type 0
IsCause now large state command refusal = IsOwn refusal ⊎ (((refusal ≡ NotBuilt) × IsUnbuilt command) ⊎ TellsPattern now large state command refusal)
