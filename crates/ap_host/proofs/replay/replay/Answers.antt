use Rattle.std.proofs.Common.{List, take, sym, subst}
use Rattle.ap_host.specs.declared.host.Op.{Op}
use Rattle.ap_host.specs.Mem.{IsTableOf}
use Rattle.ap_host.proofs.ListLemmas.{took}
use Rattle.ap_host.proofs.MemLemmas.{table_more}
use Rattle.ap_host.proofs.replay.replay.Goals as goal

pub loop-op-preserved : goal.loop-op-preserved
loop-op-preserved c =
    let ops = c.args.ops.now in
    let i = c.loop-op.op-index in
    let op = c.op-item.result in
    subst (λ (l : List Op). IsTableOf c.args.base.now c.apply.new.table.items l) (sym (took ops i op c.loop-op-test.true c.op-item.is))
    (table_more c.args.base.now c.loop-op.table.items c.apply.new.table.items (take i ops) op c.loop-op.invariant c.apply.ensures.once c.in_ok-apply.ensures.ok)
