use Rattle.std.proofs.Common.{map, sym, subst}
use Rattle.std.specs.Rc.{rc_value}
use Rattle.package_core.specs.Order.{package_cmp}
use Rattle.package_core.proofs.OrderLaws.{package_total}
use Rattle.package_list.specs.Sorted.{IsAscending}
use Rattle.package_list.proofs.SortedLemmas.{union_ascending}
use Rattle.package_list.proofs.join.union_of.Goals as goal

pub returns-clause-ascending : goal.returns-clause-ascending
returns-clause-ascending c =
    subst (IsAscending package_cmp) (sym c.in_ok-all.ensures) (union_ascending package_total (map rc_value c.args.xs.now) (map rc_value c.args.ys.now) c.requires.first)
