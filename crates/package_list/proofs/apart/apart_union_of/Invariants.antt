use Rattle.std.proofs.Common.{◌+◌, length, map}
use Rattle.std.specs.Rc.{rc_value}
use Rattle.package_list.proofs.Passed.{Apart}
use Rattle.package_list.proofs.apart.apart_union_of.Given as goal

abbrev pub invariant-loop-y : goal.invariant-loop-y
invariant-loop-y l = Apart (map rc_value l.all.items) (map rc_value l.left) (map rc_value l.right) (map rc_value l.xs) (map rc_value l.ys)

abbrev pub decreases-loop-y : goal.decreases-loop-y
decreases-loop-y l = length l.left + length l.right
