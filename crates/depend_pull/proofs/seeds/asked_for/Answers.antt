use Rattle.std.proofs.Common.{◌≡◌, ◌&&◌, ◌∙◌, Bool, ap, map, sym, subst}
use Rattle.std.specs.List.{filter}
use Rattle.std.specs.Rc.{rc_value}
use Rattle.std.proofs.lemmas.List.{take_all}
use Rattle.package_core.proofs.OrderLaws.{package_total}
use Rattle.package_core.specs.Card.{Card}
use Rattle.package_core.specs.Order.{package_cmp}
use Rattle.package_list.specs.Sorted.{IsAscending}
use Rattle.package_list.proofs.Unions.{filter_ascending}
use Rattle.query_eval.specs.Several.{some_true}
use Rattle.depend_pull.specs.Seeds.{is_for_some}
use Rattle.depend_pull.proofs.seeds.asked_for.Goals as goal

pub from_ascending-requires : goal.from_ascending-requires
from_ascending-requires c =
    let wanted : Card → Bool = λ p. some_true c.args.queries.now p && is_for_some c.args.archs.now p in
    let items = c.as_slice-candidate-items.result.now in
    let whole = ap (map rc_value) (take_all c.loop-candidate.candidate-index items c.loop-candidate-test.false) ∙ c.as_slice-candidate-items.ensures in
    let found = c.loop-candidate.invariant ∙ ap (filter wanted) whole in
    subst (IsAscending package_cmp) (sym found) (filter_ascending package_total wanted c.args.source.now c.members_ascend.ensures)
