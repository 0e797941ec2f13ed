use Rattle.std.proofs.Common.{◌≡◌, map, take}
use Rattle.std.specs.Rc.{rc_value}
use Rattle.package_core.specs.Order.{text_cmp}
use Rattle.package_list.specs.Sorted.{union}
use Rattle.package_choice.specs.Choice.{archs_met}
use Rattle.package_choice.proofs.archs.meet_all.Given as goal

abbrev pub invariant-loop-member : goal.invariant-loop-member
invariant-loop-member l = l.set.keys ≡ union text_cmp l.fn.set.keys (archs_met (map rc_value (take l.member-index l.member-items)))
