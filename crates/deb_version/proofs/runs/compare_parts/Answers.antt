use Rattle.std.proofs.Common.{arith, length, sym, ◌∙◌, ap}
use Rattle.std.proofs.lemmas.Bool.Decides.{nat_tests}
use Rattle.deb_version.specs.Cuts.{part_cmp}
use Rattle.deb_version.proofs.CutSteps.{part_cmp_goes_on, part_cmp_stops, part_cmp_none, later_shorter}
use Rattle.deb_version.proofs.runs.compare_parts.Goals as goal
use Rattle.deb_version.proofs.runs.compare_parts.Goals.{then-not-is_empty, else-not-is_empty+then-not-is_empty-2}

pub returns-in_default : goal.returns-in_default
returns-in_default c = part_cmp_stops c.loop-left.left.now c.loop-left.right.now c.compare_first-order.result.0 c.compare_first-order.ensures.order c.in_default.not-Equal ∙ c.loop-left.invariant

pub loop-left-smaller : goal.loop-left-smaller
loop-left-smaller c =
    let h = later_shorter c.loop-left.left.now c.loop-left.right.now (λ p q. elim c.if-not-is_empty.branch [ then-not-is_empty w ↦ grind (arith, nat_tests) | else-not-is_empty+then-not-is_empty-2 w ↦ grind (arith, nat_tests) ]) in
    omega (arith, h, ap length c.compare_first-order.ensures.first, ap length c.compare_first-order.ensures.second)

pub loop-left-preserved : goal.loop-left-preserved
loop-left-preserved c = (λ i. part_cmp (c.compare_first-order.ensures.first i) (c.compare_first-order.ensures.second i)) ∙ part_cmp_goes_on c.loop-left.left.now c.loop-left.right.now c.compare_first-order.result.0 c.compare_first-order.ensures.order c.in-Equal.is ∙ c.loop-left.invariant

pub returns : goal.returns
returns c = sym (part_cmp_none c.loop-left.left.now c.loop-left.right.now (grind (arith, nat_tests)) (grind (arith, nat_tests))) ∙ c.loop-left.invariant
