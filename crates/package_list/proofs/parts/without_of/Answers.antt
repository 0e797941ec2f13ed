use Rattle.std.proofs.Common.{List, ◌∙◌, ap, map, not, sym, subst}
use Rattle.std.specs.Rc.{rc_value}
use Rattle.std.proofs.lemmas.List.{take_all}
use Rattle.package_core.specs.Card.{Card}
use Rattle.package_core.proofs.OrderLaws.{package_total}
use Rattle.package_core.specs.Order.{package_cmp}
use Rattle.package_list.specs.Sorted.{IsAscending}
use Rattle.package_list.specs.Lists.{has_member, without}
use Rattle.package_list.proofs.Unions.{filter_ascending}
use Rattle.package_list.proofs.parts.without_of.Goals as goal

pub from_ascending-requires : goal.from_ascending-requires
from_ascending-requires c =
    let items = c.as_slice-candidate-items.result.now in
    let whole = ap (map rc_value) (take_all c.loop-candidate.candidate-index items c.loop-candidate-test.false) ∙ c.as_slice-candidate-items.ensures in
    let left = c.loop-candidate.invariant ∙ ap (λ (l : List Card). without l c.args.gone.now) whole in
    subst (IsAscending package_cmp) (sym left) (filter_ascending package_total (λ x. not (has_member c.args.gone.now x)) c.args.list.now c.members_ascend.ensures)
