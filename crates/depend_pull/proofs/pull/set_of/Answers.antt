use Rattle.std.proofs.Common.{◌≡◌, ◌+◌, List, [], ◌∷◌, ◌++◌, sym, ap, ◌∙◌, arith, take}
use Rattle.std.specs.BTreeSet.{insert_key}
use Rattle.std.proofs.lemmas.List.{take_more}
use Rattle.package_core.specs.Card.{Card}
use Rattle.package_list.specs.Sorted.{union}
use Rattle.package_list.proofs.Gathers.{union_push}
use Rattle.depend_pull.specs.Seeds.{seed_cmp}
use Rattle.depend_pull.proofs.SeedOrder.{key_is_put}
use Rattle.depend_pull.proofs.pull.set_of.Goals as goal

pub loop-offer-preserved : goal.loop-offer-preserved
loop-offer-preserved c =
    let i = c.loop-offer.offer-index in
    let items : List Card = c.args.taken.now in
    let x : Card = c.offer-item.result in
    let same : c.new.result ≡ x = c.new.ensures ∙ c.package.ensures in
    let more : take (i + 1) items ≡ take i items ++ x ∷ [] = take_more items i x (omega arith) ∙ ap (λ y. take i items ++ y ∷ []) (sym c.offer-item.is) in
    c.in_ok-insert.ensures.keys
    ∙ (λ k. insert_key seed_cmp (c.loop-offer.invariant k) (same k))
    ∙ key_is_put (union seed_cmp [] (take i items)) x
    ∙ sym (union_push seed_cmp [] (take i items) x)
    ∙ ap (union seed_cmp []) (sym more)
