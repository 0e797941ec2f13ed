use Rattle.std.proofs.Common.{◌≡◌, ◌++◌, map}
use Rattle.std.specs.Rc.{rc_value}
use Rattle.package_list.proofs.gather.items_of.Given as goal

abbrev pub invariant-loop-member : goal.invariant-loop-member
invariant-loop-member l = map rc_value l.items.items ++ l.member-iterator ≡ l.fn.members.keys
