use Rattle.std.proofs.Common.{◌≡◌, ℕ, ◌+◌, List, [], ◌∷◌, ◌++◌, sym, ap, ◌∙◌, arith, take}
use Rattle.std.specs.BTreeSet.{insert_key}
use Rattle.std.proofs.lemmas.List.{take_more}
use Rattle.package_core.specs.Order.{text_cmp}
use Rattle.package_list.specs.Sorted.{union}
use Rattle.package_list.proofs.Gathers.{union_push}
use Rattle.package_choice.proofs.ArchLemmas.{name_is_put}
use Rattle.package_choice.proofs.archs.set_of.Goals as goal

pub loop-name-preserved : goal.loop-name-preserved
loop-name-preserved c =
    let i = c.loop-name.name-index in
    let items : List (List ℕ) = c.args.names.now in
    let x : List ℕ = c.name-item.result in
    let more : take (i + 1) items ≡ take i items ++ x ∷ [] = take_more items i x (omega arith) ∙ ap (λ y. take i items ++ y ∷ []) (sym c.name-item.is) in
    c.in_ok-insert.ensures.keys
    ∙ (λ k. insert_key text_cmp (c.loop-name.invariant k) (c.new.ensures k))
    ∙ name_is_put (union text_cmp [] (take i items)) x
    ∙ sym (union_push text_cmp [] (take i items) x)
    ∙ ap (union text_cmp []) (sym more)
