use Rattle.std.proofs.Common.{◌≡◌, Bool, false, IsTrue, ◌↔◌, sym, ◌∙◌, subst}
use Rattle.std.proofs.lemmas.Result.{IfOk-weaker}
use Rattle.depends_field.specs.declared.phase.Kind.TheVariants.{Depends}
use Rattle.index_text.specs.Index.{IsReadable}
use Rattle.index_text.proofs.RelationLemmas.{all_five}
use Rattle.index_text.proofs.relations.has_relations.Goals as goal

pub returns-then-not-branch-4 : goal.returns-then-not-branch-4
returns-then-not-branch-4 c = none c.in_ok-is_depends-4.field-0 c.if-not-branch-4.true (λ h. c.in_ok-is_depends-4.ensures.1 (subst (IsReadable Depends) (sym c.get-4.ensures) h.suggests))
  where
    none : {A : Type 0} (b : Bool) → b ≡ false → (A → IsTrue b) → IsTrue false ↔ A
    none b e f = (λ t. cc, λ a. sym e ∙ f a)

pub returns : goal.returns
returns c =
    IfOk-weaker c.is_provides.result _ _ (λ b h. all_five c.args.stanza.now
    (subst (IsReadable Depends) c.get.ensures (c.in_ok-is_depends.ensures.0 c.if-not-branch.false))
    (subst (IsReadable Depends) c.get-2.ensures (c.in_ok-is_depends-2.ensures.0 c.if-not-branch-2.false))
    (subst (IsReadable Depends) c.get-3.ensures (c.in_ok-is_depends-3.ensures.0 c.if-not-branch-3.false))
    (subst (IsReadable Depends) c.get-4.ensures (c.in_ok-is_depends-4.ensures.0 c.if-not-branch-4.false))
    b (rw c.get-5.ensures at h)) c.is_provides.ensures
