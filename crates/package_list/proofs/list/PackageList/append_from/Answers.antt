use Rattle.std.proofs.Common.{sym, subst, map}
use Rattle.std.specs.Rc.{rc_value}
use Rattle.package_core.specs.Order.{package_cmp}
use Rattle.package_core.proofs.OrderLaws.{package_total}
use Rattle.package_list.specs.Sorted.{IsAscending}
use Rattle.package_list.proofs.SortedLemmas.{union_ascending}
use Rattle.package_list.proofs.list.PackageList.append_from.Goals as goal

pub invariant_of-self : goal.invariant_of-self
invariant_of-self c =
    subst (IsAscending package_cmp) (sym c.in_ok-all.ensures.1)
    (union_ascending package_total (map rc_value c.deref.result.now) (map rc_value c.deref-2.result.now) (subst (λ l. IsAscending package_cmp (map rc_value l)) (sym c.deref.ensures.value) c.self.invariant))
