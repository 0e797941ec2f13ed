use Rattle.std.proofs.Common.{◌≡◌, sym, ap, ◌∙◌, subst, Option, Some}
use Rattle.std.specs.Result.{IfOk}
use Rattle.package_core.specs.Card.{Card, card_of}
use Rattle.package_core.specs.Whole.{IsTextOf, fields_at}
use Rattle.package_core.specs.Faults.{fault_of}
use Rattle.package_core.proofs.ReadBack.{fields_read_of}
use Rattle.package_core.proofs.WholeLemmas.{name_is_path, no_fault, itself}
use Rattle.package_core.proofs.stored.package_of.Goals as goal

the_same : {X : Type 0} (o : Option X) (x y : X) → o ≡ Some x → o ≡ Some y → x ≡ y
the_same o x y e f = cc

pub returns-in_default-clause-only : goal.returns-in_default-clause-only
returns-in_default-clause-only c = λ p h. let e = c.in_ok-stanza.ensures (fields_at p.file p) (fields_read_of c.args.bytes.now p h) in absurd (c.in_default.not-Some (fields_at p.file p) e)

pub returns-in_default-2-clause-only : goal.returns-in_default-2-clause-only
returns-in_default-2-clause-only c = λ p h.
    let e = c.in_ok-stanza.ensures (fields_at p.file p) (fields_read_of c.args.bytes.now p h) in
    let fields = the_same _ _ _ c.in-Some.is e in
    absurd (c.in_default-2.not-Some _ (c.in_ok-package.ensures.found (ap fault_of fields ∙ no_fault p.file p (name_is_path p h.whole.described) h.whole)))

pub returns-clause-only : goal.returns-clause-only
returns-clause-only c = λ p h.
    let e = c.in_ok-stanza.ensures (fields_at p.file p) (fields_read_of c.args.bytes.now p h) in
    let fields = the_same _ _ _ c.in-Some.is e in
    let made = the_same _ _ _ c.in-Some-2.is (c.in_ok-package.ensures.found (ap fault_of fields ∙ no_fault p.file p (name_is_path p h.whole.described) h.whole)) ∙ ap card_of fields ∙ itself p h.whole in
    subst (λ (q : Card). IfOk c.with_text.result (λ found. found ≡ Some q)) made (c.with_text.ensures.found (subst (IsTextOf c.args.bytes.now) (sym made) h))
