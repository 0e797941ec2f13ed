use Rattle.std.proofs.Common.{sym, ap, ◌∙◌, ◌∷◌, map}
use Rattle.std.specs.Rc.{rc_value}
use Rattle.package_list.specs.Lists.{has_greater}
use Rattle.package_list.proofs.Keys.{greatest_goes_on, greatest_keeps}
use Rattle.package_list.proofs.reduce.greatest_of.Goals as goal

pub loop-x-preserved-then-goes_on : goal.loop-x-preserved-then-goes_on
loop-x-preserved-then-goes_on c =
    greatest_goes_on _ _ _ _ _ (ap (map rc_value) c.in-Some.ensures)
    (ap (λ q. has_greater (q ∷ map rc_value c.in-Some.xs.now) q) (sym c.package_of.ensures) ∙ sym c.goes_on.ensures ∙ c.if-goes_on.true) c.loop-x.invariant

pub loop-x-preserved : goal.loop-x-preserved
loop-x-preserved c =
    greatest_keeps _ _ _ _ _ _ (ap (map rc_value) c.in-Some.ensures)
    (ap (λ q. has_greater (q ∷ map rc_value c.in-Some.xs.now) q) (sym c.package_of.ensures) ∙ sym c.goes_on.ensures ∙ c.if-goes_on.false) c.in_ok-push_copy.ensures c.loop-x.invariant
