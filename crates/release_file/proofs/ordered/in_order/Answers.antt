use Rattle.std.proofs.Common.{◌≡◌, ◌++◌, ◌∷◌, [], take, ap, sym, ◌∙◌, arith}
use Rattle.std.specs.BTreeSet.{insert_key}
use Rattle.package_list.specs.Sorted.{union}
use Rattle.release_file.proofs.NameLemmas.{text_cmp, next_is, one_key}
use Rattle.release_file.proofs.ordered.in_order.Goals as goal

pub loop-word-preserved : goal.loop-word-preserved
loop-word-preserved c =
    let i = c.loop-word.word-index in
    let items = c.args.words.now in
    let x = c.word-item.result in
    let same : c.new.result ≡ x = c.new.ensures ∙ c.text.ensures in
    one_key c.loop-word.set.keys c.insert.new.self.keys (take i items) x (c.in_ok-insert.ensures.keys ∙ ap (insert_key text_cmp c.loop-word.set.keys) same) c.loop-word.invariant
    ∙ ap (union text_cmp []) (sym (next_is items i x (omega arith) c.word-item.is))
