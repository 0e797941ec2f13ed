use Rattle.std.proofs.Common.{sym, ◌∙◌, codes}
use Rattle.std.proofs.lemmas.Slice.Eq.{bytes_eq-Decides}
use Rattle.query_eval.proofs.Fields.{compares_version, ok_as}
use Rattle.query_eval.proofs.field.compares.Goals as goal

pub returns-then-eq : goal.returns-then-eq
returns-then-eq c =
    let named = (bytes_eq-Decides c.args.name.now (codes "$Version")).0 (sym c.eq.ensures ∙ c.if-eq.true) in
    ok_as c.compares_as_version.result _ _ (compares_version c.args.candidate.now c.args.name.now c.args.asked c.args.value.now c.args.text.now named c.requires) c.compares_as_version.ensures
