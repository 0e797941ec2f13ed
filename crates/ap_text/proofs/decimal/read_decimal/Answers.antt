use Rattle.std.proofs.Common.{ap, sym, ◌∙◌}
use Rattle.ap_text.specs.Decimals.{has_number_form}
use Rattle.ap_text.proofs.DecimalLemmas.{no_decimal_without_form, parsed_is_written, unparsed_is_unwritten}
use Rattle.ap_text.proofs.decimal.read_decimal.Goals as goal

pub returns-then-not-has_number_form-clause-none : goal.returns-then-not-has_number_form-clause-none
returns-then-not-has_number_form-clause-none c = λ _. no_decimal_without_form c.args.text.now (ap has_number_form (sym c.as_bytes.ensures.value) ∙ (sym c.has_number_form.ensures ∙ c.if-not-has_number_form.true))

pub returns-clause-found : goal.returns-clause-found
returns-clause-found c = parsed_is_written c.args.text.now c.parse.result _ (ap has_number_form (sym c.as_bytes.ensures.value) ∙ (sym c.has_number_form.ensures ∙ c.if-not-has_number_form.false)) c.parse.ensures.value.0 c.ok.ensures.value

pub returns-clause-none : goal.returns-clause-none
returns-clause-none c = unparsed_is_unwritten c.args.text.now c.parse.result _ (ap has_number_form (sym c.as_bytes.ensures.value) ∙ (sym c.has_number_form.ensures ∙ c.if-not-has_number_form.false)) c.parse.ensures.value.0 c.ok.ensures.value
