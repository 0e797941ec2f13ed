use Rattle.std.proofs.Common.{length, map}
use Rattle.std.specs.Rc.{rc_value}
use Rattle.package_list.proofs.Keys.{Greatest}
use Rattle.package_list.proofs.reduce.greatest_of.Given as goal

abbrev pub invariant-loop-x : goal.invariant-loop-x
invariant-loop-x l = Greatest (map rc_value l.kept.items) (map rc_value l.left) (map rc_value l.xs)

abbrev pub decreases-loop-x : goal.decreases-loop-x
decreases-loop-x l = length l.left
