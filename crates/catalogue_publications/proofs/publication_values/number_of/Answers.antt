use Rattle.std.proofs.Common.{sym, ◌∙◌}
use Rattle.catalogue_publications.proofs.PublicationLineLemmas.{digit_text, form_number}
use Rattle.catalogue_publications.proofs.PublicationValues.{count_is, no_numeral}
use Rattle.catalogue_publications.proofs.publication_values.number_of.Goals as goal

pub returns-then-not-is_numeral : goal.returns-then-not-is_numeral
returns-then-not-is_numeral c = no_numeral c.args.bytes.now c.is_numeral.result c.is_numeral.ensures c.if-not-is_numeral.true

pub returns-in-None : goal.returns-in-None
returns-in-None c = absurd (c.in-None.ensures (digit_text c.args.bytes.now (sym c.is_numeral.ensures ∙ c.if-not-is_numeral.false)))

pub returns-in-Some : goal.returns-in-Some
returns-in-Some c =
    let n = form_number c.args.bytes.now (sym c.is_numeral.ensures ∙ c.if-not-is_numeral.false) in
    (n.0, n.1, count_is c.in-Some.digits.now n.0 c.read_decimal.result c.read_decimal.ensures.found c.read_decimal.ensures.small c.read_decimal.ensures.none (c.in-Some.ensures.0 ∙ n.1))
