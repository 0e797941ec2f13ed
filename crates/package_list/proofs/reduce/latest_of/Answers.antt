use Rattle.std.proofs.Common.{map, sym, ap, ◌∙◌, subst}
use Rattle.std.specs.Rc.{rc_value}
use Rattle.package_core.specs.Order.{package_cmp}
use Rattle.package_core.proofs.OrderLaws.{package_total}
use Rattle.package_list.specs.Sorted.{IsAscending}
use Rattle.package_list.specs.Lists.{greatest}
use Rattle.package_list.proofs.Unions.{filter_ascending}
use Rattle.package_list.proofs.reduce.latest_of.Goals as goal

pub returns-clause-ascending : goal.returns-clause-ascending
returns-clause-ascending c =
    subst (IsAscending package_cmp) (sym (c.in_ok-kept.ensures ∙ ap (λ l. greatest (map rc_value l)) c.deref.ensures.value))
    (filter_ascending package_total _ _ c.in_ok-all.ensures.ascending)
