use Rattle.std.proofs.Common.{◌≡◌, take, map}
use Rattle.std.specs.Rc.{rc_value}
use Rattle.package_list.proofs.join.copy_items.Given as goal

abbrev pub invariant-loop-item : goal.invariant-loop-item
invariant-loop-item l = map rc_value l.copies.items ≡ map rc_value (take l.item-index l.items)
