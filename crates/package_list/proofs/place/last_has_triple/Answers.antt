use Rattle.std.proofs.Common.{sym, ap, ◌∙◌, ◌≡◌, ◌-◌, suc, arith, map, length}
use Rattle.std.specs.Rc.{rc_value}
use Rattle.std.proofs.lemmas.List.{length-drop, length-map}
use Rattle.package_core.specs.Order.{same_triple}
use Rattle.package_list.proofs.Beside.{last_at}
use Rattle.package_list.proofs.place.last_has_triple.Goals as goal

pub returns-in-Some : goal.returns-in-Some
returns-in-Some c =
    let e : c.args.place ≡ suc (c.args.place - 1) = omega arith in
    c.has_same_triple.ensures ∙ sym (last_at (λ q. same_triple q c.args.wanted.now) (c.args.place - 1) c.args.place (map rc_value c.args.items.now) c.in-Some.member.now _ e c.in-Some.ensures)

pub returns-in-None : goal.returns-in-None
returns-in-None c = absurd (omega (arith, c.requires, ap length c.in-None.ensures, length-drop (c.args.place - 1) (map rc_value c.args.items.now), length-map c.args.items.now rc_value))
