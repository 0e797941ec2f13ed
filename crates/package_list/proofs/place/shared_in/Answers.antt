use Rattle.std.proofs.Common.{sym, ap, ◌∙◌, map}
use Rattle.std.specs.Ordering.{is_eq}
use Rattle.std.specs.Rc.{rc_value}
use Rattle.package_core.specs.Order.{package_cmp}
use Rattle.package_core.proofs.OrderLaws.{package_total}
use Rattle.package_list.proofs.Unions.{equal_at, none_at, none_past}
use Rattle.package_list.proofs.place.shared_in.Goals as goal

pub returns-then-is_eq : goal.returns-then-is_eq
returns-then-is_eq c =
    equal_at package_total (map rc_value c.args.items.now) c.place_of-place.result (rc_value c.in-Some.member.now) c.args.wanted.now _ c.place_of-place.ensures.before c.in-Some.ensures
    (sym (ap is_eq (c.compare_packages.ensures ∙ ap (λ p. package_cmp p c.args.wanted.now) c.package_of.ensures)) ∙ sym c.is_eq.ensures ∙ c.if-is_eq.true)

pub returns-else-is_eq : goal.returns-else-is_eq
returns-else-is_eq c =
    none_at package_total (map rc_value c.args.items.now) c.place_of-place.result (rc_value c.in-Some.member.now) c.args.wanted.now _ c.requires c.place_of-place.ensures.before c.place_of-place.ensures.behind c.in-Some.ensures
    (sym (ap is_eq (c.compare_packages.ensures ∙ ap (λ p. package_cmp p c.args.wanted.now) c.package_of.ensures)) ∙ sym c.is_eq.ensures ∙ c.if-is_eq.false)

pub returns-in-None : goal.returns-in-None
returns-in-None c = none_past package_total (map rc_value c.args.items.now) c.place_of-place.result c.args.wanted.now c.place_of-place.ensures.before c.in-None.ensures
