-- The machine of the program is lawful, whatever its inbox tells.
use Rattle.std.proofs.Common.{◌≡◌, ℕ, List, [], Option, Some, None}
use Rattle.command_words.specs.Plain.{PlainCommand}
use Rattle.run_model.specs.Run.{Outcome, Lawful}
use Rattle.machine_state.specs.declared.refusal.Refusal.{Refusal}
use Rattle.machine_state.specs.State.{Valid}
use Rattle.machine_state.specs.Values.{StateView}
use Rattle.reply_text.specs.Refusals.{refusal_line}
use Rattle.machine_step.specs.Step.{Given}
use Rattle.machine_step.proofs.StepLaws as laws
use Rattle.catalogue_root.proofs.FitLemmas.{open_serves}
use Rattle.aptly_core.specs.Machine.{machine, Steps}

pub says : (given : Given) (k : Option (List ℕ)) (s : StateView) (c : PlainCommand) (o : Outcome StateView Refusal) → Steps given k s c o → o.reply ≡ [] → ⊥
says = laws.says

pub plain : (given : Given) (j k : Option (List ℕ)) (s : StateView) (c : PlainCommand) (o : Outcome StateView Refusal) → o.refusal ≡ None → Steps given j s c o → Steps given k s c o
plain = laws.plain

pub keeps : (given : Given) (k : Option (List ℕ)) (s : StateView) (c : PlainCommand) (o : Outcome StateView Refusal) → Valid s → Steps given k s c o → Valid o.state
keeps = laws.valid

-- a refused command says the line of its refusal
pub refused_says : (given : Given) (k : Option (List ℕ)) (s : StateView) (c : PlainCommand) (o : Outcome StateView Refusal) (r : Refusal) → Steps given k s c o → o.refusal ≡ Some r → o.reply ≡ refusal_line r
refused_says = laws.says_refusal_of

pub lawful : (given : Given) → Lawful (machine given)
lawful given = record {
  store = record { opens = λ f s settled. settled; settled_serves = λ f s settled. open_serves f s s s settled; serves = λ f s t served. served };
  replies = says given;
  plain = plain given;
  keeps = keeps given;
  total = λ k s c valid. laws.total given k s c;
  valid = λ f s stands. stands.held.valid;
}
