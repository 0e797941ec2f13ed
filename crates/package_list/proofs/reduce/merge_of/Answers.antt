use Rattle.std.proofs.Common.{map, not, sym, ap, ◌∙◌, subst}
use Rattle.std.specs.List.{filter}
use Rattle.std.specs.Rc.{rc_value}
use Rattle.package_core.specs.Order.{package_cmp}
use Rattle.package_core.proofs.OrderLaws.{package_total}
use Rattle.package_list.specs.Sorted.{IsAscending}
use Rattle.package_list.specs.Lists.{has_key, union}
use Rattle.package_list.proofs.SortedLemmas.{union_ascending}
use Rattle.package_list.proofs.Unions.{filter_ascending}
use Rattle.package_list.proofs.reduce.merge_of.Goals as goal

pub returns-clause-ascending : goal.returns-clause-ascending
returns-clause-ascending c =
    let ys = map rc_value c.args.ys.now in
    subst (IsAscending package_cmp)
    (sym (c.in_ok-all.ensures ∙ ap (λ l. union (map rc_value l) ys) c.deref.ensures.value ∙ ap (λ l. union l ys) c.in_ok-kept.ensures))
    (union_ascending package_total (filter (λ x. not (has_key ys x)) (map rc_value c.args.xs.now)) ys (filter_ascending package_total _ _ c.requires.first))
