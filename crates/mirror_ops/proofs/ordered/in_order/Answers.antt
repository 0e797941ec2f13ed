use Rattle.std.proofs.Common.{◌≡◌, ◌+◌, ◌++◌, ◌∷◌, [], take, ap, sym, ◌∙◌, arith}
use Rattle.std.specs.BTreeSet.{insert_key}
use Rattle.std.proofs.lemmas.List.{take_more}
use Rattle.package_core.specs.Order.{text_cmp}
use Rattle.package_list.specs.Sorted.{union}
use Rattle.mirror_ops.proofs.NameLists.{one_key}
use Rattle.mirror_ops.proofs.ordered.in_order.Goals as goal

pub loop-word-preserved : goal.loop-word-preserved
loop-word-preserved c =
    let i = c.loop-word.word-index in
    let items = c.args.words.now in
    let x = c.word-item.result in
    let same : c.new.result ≡ x = c.new.ensures ∙ c.text.ensures in
    let more : take (i + 1) items ≡ take i items ++ x ∷ [] = take_more items i x (omega arith) ∙ ap (λ y. take i items ++ y ∷ []) (sym c.word-item.is) in
    one_key c.loop-word.set.keys c.insert.new.self.keys (take i items) x (c.in_ok-insert.ensures.keys ∙ ap (insert_key text_cmp c.loop-word.set.keys) same) c.loop-word.invariant
    ∙ ap (union text_cmp []) (sym more)
