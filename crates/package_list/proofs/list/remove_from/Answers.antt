use Rattle.std.proofs.Common.{sym, ap, ◌∙◌, ◌∷◌, [], map, not, subst}
use Rattle.std.specs.List.{remove}
use Rattle.std.specs.Rc.{rc_value}
use Rattle.package_core.specs.Order.{package_cmp}
use Rattle.package_core.proofs.OrderLaws.{package_total}
use Rattle.package_list.specs.Sorted.{IsAscending}
use Rattle.package_list.specs.Lists.{without, has_member}
use Rattle.package_list.proofs.Unions.{filter_ascending}
use Rattle.package_list.proofs.list.remove_from.Goals as goal

pub returns-in-Some-clause-ascending : goal.returns-in-Some-clause-ascending
returns-in-Some-clause-ascending c =
    subst (IsAscending package_cmp)
    (sym (ap (map rc_value) c.remove.ensures.items ∙ ap (λ l. map rc_value (remove l c.in-Some.place)) (sym c.deref.ensures.value) ∙ sym c.in-Some.ensures.others ∙ ap (λ l. without (map rc_value l) (c.args.gone.now ∷ [])) c.deref.ensures.value))
    (filter_ascending package_total (λ x. not (has_member (c.args.gone.now ∷ []) x)) (map rc_value c.args.items.now.items) c.requires)
