use Rattle.std.proofs.Common.{map, sym, subst}
use Rattle.std.specs.Rc.{rc_value}
use Rattle.package_core.specs.Order.{package_cmp}
use Rattle.package_list.specs.Sorted.{IsAscending}
use Rattle.package_list.proofs.Gathers.{joined_ascends}
use Rattle.package_list.proofs.joined.JoinedPackages.new.Goals as goal

pub invariant_of-result : goal.invariant_of-result
invariant_of-result c = subst (IsAscending package_cmp) (sym c.in_ok-items_of.ensures) (joined_ascends (map rc_value c.args.packages.now) c.in_ok-members.members.keys c.in_ok-members.ensures)
