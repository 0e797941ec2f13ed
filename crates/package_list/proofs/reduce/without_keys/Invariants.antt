use Rattle.std.proofs.Common.{◌+◌, length, map}
use Rattle.std.specs.Rc.{rc_value}
use Rattle.package_list.proofs.Keys.{Kept}
use Rattle.package_list.proofs.reduce.without_keys.Given as goal

abbrev pub invariant-loop-y : goal.invariant-loop-y
invariant-loop-y l = Kept (map rc_value l.kept.items) (map rc_value l.left) (map rc_value l.right) (map rc_value l.xs) (map rc_value l.ys)

abbrev pub decreases-loop-y : goal.decreases-loop-y
decreases-loop-y l = length l.left + length l.right
