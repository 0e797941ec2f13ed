use Rattle.std.proofs.Common.{inl, inr, ap, sym, ◌∙◌, subst}
use Rattle.std.proofs.lemmas.Bool.{true≢false}
use Rattle.catalogue_lines.specs.NameLines.{IsCut, listed_name}
use Rattle.catalogue_lines.proofs.ValueLemmas.{at_default, at_some}
use Rattle.catalogue_lines.proofs.SharedValues.{no_next_name, no_other_name}
use Rattle.catalogue_lines.proofs.shared_values.next_name.Goals.{else-has-via-then-has+else-comes_after, else-has-via-else-has}
use Rattle.catalogue_lines.proofs.shared_values.next_name.Goals as goal

pub returns-in_default-2 : goal.returns-in_default-2
returns-in_default-2 c = no_next_name c.args.listed c.args.text.now c.in-Some.bytes.now c.in-Some.behind.now c.args.done.now c.in-Some.ensures (at_default _ _ _ c.in_ok-name.ensures c.in_default-2.not-Some)

pub returns : goal.returns
returns c =
    let n = at_some _ _ _ _ c.in_ok-name.ensures c.in-Some-2.is in
    let cut = subst (λ x. IsCut c.args.text.now x c.in-Some.behind.now) (sym n.0) c.in-Some.ensures in
    elim c.else-has.branch [
      | else-has-via-then-has+else-comes_after w ↦ no_other_name c.args.listed c.args.text.now c.in-Some-2.name c.in-Some.behind.now c.args.done.now cut (inr (λ h. true≢false (sym (w.comes_after.ensures.1 h) ∙ w.if-comes_after.false)))
      | else-has-via-else-has w ↦ no_other_name c.args.listed c.args.text.now c.in-Some-2.name c.in-Some.behind.now c.args.done.now cut (inl (ap (listed_name c.args.listed) (sym c.as_str.ensures.text) ∙ sym c.has.ensures ∙ w.if-has.false))
    ]
