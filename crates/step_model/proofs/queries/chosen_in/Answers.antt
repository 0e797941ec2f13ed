use Rattle.std.proofs.Common.{◌∙◌, ap, map, sym, subst}
use Rattle.std.specs.List.{filter}
use Rattle.std.specs.Rc.{rc_value}
use Rattle.std.proofs.lemmas.List.{take_all}
use Rattle.package_core.proofs.OrderLaws.{package_total}
use Rattle.package_core.specs.Order.{package_cmp}
use Rattle.package_list.specs.Sorted.{IsAscending}
use Rattle.package_list.proofs.Unions.{filter_ascending}
use Rattle.step_model.specs.Queries.{some_true}
use Rattle.step_model.proofs.QueryLemmas.{chosen_is}
use Rattle.step_model.proofs.queries.chosen_in.Goals as goal

pub from_ascending-requires : goal.from_ascending-requires
from_ascending-requires c =
    let items = c.as_slice-candidate-items.result.now in
    let whole = ap (map rc_value) (take_all c.loop-candidate.candidate-index items c.loop-candidate-test.false) ∙ c.as_slice-candidate-items.ensures in
    let found = c.loop-candidate.invariant ∙ ap (filter (some_true c.args.asked.now)) whole in
    subst (IsAscending package_cmp) (sym found) (filter_ascending package_total (some_true c.args.asked.now) c.args.list.now c.members_ascend.ensures)

pub returns : goal.returns
returns c = λ queries e.
    let items = c.as_slice-candidate-items.result.now in
    let whole = ap (map rc_value) (take_all c.loop-candidate.candidate-index items c.loop-candidate-test.false) ∙ c.as_slice-candidate-items.ensures in
    c.from_ascending.ensures ∙ c.loop-candidate.invariant ∙ ap (filter (some_true c.args.asked.now)) whole ∙ sym (chosen_is c.args.list.now queries c.args.asked.now e)
