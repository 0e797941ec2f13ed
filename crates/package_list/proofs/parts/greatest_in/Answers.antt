use Rattle.std.proofs.Common.{map, sym, ap, ◌∙◌, subst, not}
use Rattle.package_core.specs.Order.{package_cmp}
use Rattle.package_core.proofs.OrderLaws.{package_total}
use Rattle.package_list.specs.Sorted.{IsAscending}
use Rattle.package_list.specs.Lists.{greatest, has_greater}
use Rattle.package_list.proofs.Unions.{filter_ascending}
use Rattle.package_list.proofs.parts.greatest_in.Goals as goal

pub from_ascending-requires : goal.from_ascending-requires
from_ascending-requires c =
    subst (IsAscending package_cmp) (sym (c.in_ok-kept.ensures ∙ ap greatest c.as_slice.ensures))
    (filter_ascending package_total (λ x. not (has_greater c.args.list.now x)) c.args.list.now c.members_ascend.ensures)
