use Rattle.std.proofs.Common.{ap, map}
use Rattle.std.specs.Rc.{rc_value}
use Rattle.package_core.proofs.OrderLaws.{package_total}
use Rattle.package_list.proofs.SortedLemmas.{joined_none, joined_less, joined_equal, joined_greater, joined_ends}
use Rattle.package_list.proofs.join.one_pass.Goals as goal

pub loop-y-init : goal.loop-y-init
loop-y-init c = rw c.new-all.ensures.items (joined_none package_total (map rc_value c.args.xs.now) (map rc_value c.args.ys.now) c.requires)

pub loop-y-preserved-in-None : goal.loop-y-preserved-in-None
loop-y-preserved-in-None c = joined_ends package_total _ _ _ _ _ _ _ _ (ap (map rc_value) c.in-None.ensures) (ap (map rc_value) c.in-Some.ensures) c.in_ok-push_copy-in-None.ensures c.loop-y.invariant

pub loop-y-preserved-in-Less : goal.loop-y-preserved-in-Less
loop-y-preserved-in-Less c = joined_less package_total _ _ _ _ _ _ _ _ _ _ (ap (map rc_value) c.in-Some-first_and_rest.ensures) (ap (map rc_value) c.in-Some.ensures) c.in_ok-push_copy-in-Less.ensures (cc) c.loop-y.invariant

pub loop-y-preserved-in-Equal : goal.loop-y-preserved-in-Equal
loop-y-preserved-in-Equal c = joined_equal package_total _ _ _ _ _ _ _ _ _ (ap (map rc_value) c.in-Some-first_and_rest.ensures) (ap (map rc_value) c.in-Some.ensures) (cc) c.loop-y.invariant

pub loop-y-preserved : goal.loop-y-preserved
loop-y-preserved c = joined_greater package_total _ _ _ _ _ _ _ _ _ _ (ap (map rc_value) c.in-Some-first_and_rest.ensures) (ap (map rc_value) c.in-Some.ensures) c.in_ok-push_copy-in-Greater.ensures (cc) c.loop-y.invariant
