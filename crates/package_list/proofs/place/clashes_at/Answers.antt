use Rattle.std.proofs.Common.{sym, ap, ◌∙◌, ◌||◌, map, true, false, Bool, ◌≡◌}
use Rattle.std.specs.Rc.{rc_value}
use Rattle.package_list.proofs.Beside.{clash_beside, above_new}
use Rattle.package_list.proofs.place.clashes_at.Goals as goal

by_first : (r a b h : Bool) → r ≡ a → r ≡ true → h ≡ (a || b) → r ≡ h
by_first r a b h e t k = e ∙ (sym e ∙ t) ∙ sym (k ∙ ap (λ x. x || b) (sym e ∙ t))

by_second : (r a b h s : Bool) → r ≡ a → r ≡ false → s ≡ b → h ≡ (a || b) → s ≡ h
by_second r a b h s e f g k = g ∙ sym (k ∙ ap (λ x. x || b) (sym e ∙ f))

pub returns-then-last_has_triple : goal.returns-then-last_has_triple
returns-then-last_has_triple c =
    let above = above_new (map rc_value c.args.items.now) c.args.place c.args.wanted.now c.requires.ascending c.requires.before c.requires.behind c.requires.new in
    by_first _ _ _ _ c.last_has_triple.ensures c.if-last_has_triple.true (clash_beside (map rc_value c.args.items.now) c.args.place c.args.wanted.now c.requires.ascending c.requires.before above)

pub returns-else-last_has_triple : goal.returns-else-last_has_triple
returns-else-last_has_triple c =
    let above = above_new (map rc_value c.args.items.now) c.args.place c.args.wanted.now c.requires.ascending c.requires.before c.requires.behind c.requires.new in
    by_second _ _ _ _ _ c.last_has_triple.ensures c.if-last_has_triple.false c.first_has_triple.ensures (clash_beside (map rc_value c.args.items.now) c.args.place c.args.wanted.now c.requires.ascending c.requires.before above)
