use Rattle.std.proofs.Common.{◌≡◌, ◌&&◌, Bool, true, false, List, ℕ, refl, sym, ap, ◌∙◌}
use Rattle.std.proofs.lemmas.Str.{is_utf8-from_IsUtf8}
use Rattle.machine_state.specs.State.{is_line}
use Rattle.machine_state.proofs.texts.is_line_text.Goals as goal

and_true : (a : Bool) → a ≡ (a && true)
and_true true = refl
and_true false = refl

pub returns : goal.returns
returns c = c.is_line.ensures ∙ ap is_line c.as_bytes.ensures.value ∙ and_true (is_line c.args.text.now) ∙ ap (λ b. is_line c.args.text.now && b) (sym (is_utf8-from_IsUtf8 c.args.text.now c.utf8.text))
