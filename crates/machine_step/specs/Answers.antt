-- What the calls of a step answer.
use Rattle.std.specs.Prelude.{◌≡◌, ℕ, List, Option, Some, unwrap_or}
use Rattle.run_model.specs.Run.{Outcome}
use Rattle.machine_state.specs.declared.refusal.Refusal.{Refusal}
use Rattle.machine_state.specs.declared.refusal.Refusal.TheVariants.{PatternTooLarge}
use Rattle.machine_state.specs.Values.{StateView}
use Rattle.machine_step.specs.declared.outcome.Outcome.{Outcome as Made}

-- what an outcome in the state says
abbrev pub seen : StateView → Made → Outcome StateView Refusal
seen state outcome = record { reply = outcome.reply; refusal = outcome.refusal; state = unwrap_or outcome.state state }

-- which text was refused for its size changes only where such a pattern is told
abbrev pub KeepsUnlessTold : Option (List ℕ) → Option (List ℕ) → Option Refusal → Type 0
KeepsUnlessTold old new (Some (PatternTooLarge query test)) = Unit {0}
KeepsUnlessTold old new refusal = new ≡ old
