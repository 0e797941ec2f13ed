use Rattle.std.proofs.Common.{◌≡◌, ℕ, ◌+◌, List, [], ◌∷◌, ◌++◌, get_or, sym, ap, ◌∙◌, arith, map, take}
use Rattle.std.specs.Rc.{rc_value}
use Rattle.std.proofs.lemmas.List.{map-append, take_more}
use Rattle.package_core.specs.Card.{Card}
use Rattle.package_core.specs.Order.{text_cmp}
use Rattle.package_list.specs.Sorted.{union}
use Rattle.package_choice.specs.Choice.{archs_met}
use Rattle.package_choice.proofs.ArchLemmas.{joined_both}
use Rattle.package_choice.proofs.archs.meet_all.Goals as goal

pub loop-member-preserved : goal.loop-member-preserved
loop-member-preserved c =
    let i = c.loop-member.member-index in
    let items = c.as_slice-member-items.result.now in
    let item = c.member-item.result in
    let x : Card = rc_value item in
    let before : List Card = map rc_value (take i items) in
    let keys : List (List ℕ) = c.args.set.now.keys in
    let same : c.package.result.now ≡ x = c.package.ensures ∙ c.deref.ensures in
    let more : map rc_value (take (i + 1) items) ≡ before ++ x ∷ [] =
    ap (map rc_value) (take_more items i item (omega arith)) ∙ map-append rc_value (take i items) (get_or items i item ∷ [])
    ∙ ap (λ y. before ++ rc_value y ∷ []) (sym c.member-item.is)
    in
    c.in_ok-meet.ensures
    ∙ (λ k. union text_cmp (c.loop-member.invariant k) (archs_met (same k ∷ [])))
    ∙ joined_both keys before (x ∷ [])
    ∙ ap (λ (l : List Card). union text_cmp keys (archs_met l)) (sym more)
