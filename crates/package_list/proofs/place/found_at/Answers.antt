use Rattle.std.proofs.Common.{sym, ◌∙◌, map, arith}
use Rattle.std.specs.Rc.{rc_value}
use Rattle.std.proofs.lemmas.List.{length-map}
use Rattle.package_core.proofs.OrderLaws.{package_total}
use Rattle.package_list.proofs.Removal.{removed_at, keep_all, has_inside, map-remove}
use Rattle.package_list.proofs.place.found_at.Goals as goal

pub returns-then-is_at-clause-inside : goal.returns-then-is_at-clause-inside
returns-then-is_at-clause-inside c =
    let inside = has_inside package_total (map rc_value c.args.items.now) c.place_of-place.result c.args.wanted.now c.place_of-place.ensures.before (sym c.is_at.ensures ∙ c.if-is_at.true) in
    omega (arith, inside, length-map c.args.items.now rc_value)

pub returns-then-is_at-clause-others : goal.returns-then-is_at-clause-others
returns-then-is_at-clause-others c =
    removed_at package_total (map rc_value c.args.items.now) c.place_of-place.result c.args.wanted.now c.requires c.place_of-place.ensures.before c.place_of-place.ensures.behind (sym c.is_at.ensures ∙ c.if-is_at.true)
    ∙ sym (map-remove rc_value c.args.items.now c.place_of-place.result)

pub returns-else-is_at-clause-others : goal.returns-else-is_at-clause-others
returns-else-is_at-clause-others c = keep_all package_total (map rc_value c.args.items.now) c.args.wanted.now (sym c.is_at.ensures ∙ c.if-is_at.false)
