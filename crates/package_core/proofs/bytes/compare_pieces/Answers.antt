use Rattle.package_core.specs.Left.{left, behind}
use Rattle.package_core.proofs.PieceLemmas.{pieces_first}
use Rattle.package_core.proofs.bytes.compare_pieces.Goals as goal

pub returns-clause-order : goal.returns-clause-order
unfolding left
returns-clause-order c =
    let a = c.args.a in
    let b = c.args.b in
    let one = c.split_at.ensures in
    let two = c.split_at-2.ensures in
    pieces_first a.here.now b.here.now _ _ _ _ (behind a.part a.fields.now) (behind b.part b.fields.now) c.min-count.result _ one.front one.back two.front two.back one.front_len two.front_len c.cmp.ensures
