use Rattle.std.proofs.Common.{◌↔◌, List, take, sym, subst}
use Rattle.ap_host.specs.declared.host.Op.{Op}
use Rattle.ap_host.specs.Disk.{Path}
use Rattle.ap_host.specs.Table.{Entries, files_of}
use Rattle.ap_host.specs.Names.{IsOneOf}
use Rattle.ap_host.specs.Drawing.{HoldsAfter}
use Rattle.ap_host.proofs.ListLemmas.{took}
use Rattle.ap_host.proofs.HolderLemmas.{Holding, holding_more}
use Rattle.ap_host.proofs.holders.may_hold.Goals as goal

pub loop-op-preserved : goal.loop-op-preserved
loop-op-preserved c =
    let ops = c.args.ops.now in
    let i = c.loop-op.op-index in
    let op = c.op-item.result in
    subst (λ (l : List Op). Holding c.args.base.now c.apply.new.table.items l c.args.bytes.now c.note.new.held.items) (sym (took ops i op c.loop-op-test.true c.op-item.is))
    (holding_more c.args.base.now c.loop-op.table.items c.apply.new.table.items (take i ops) op c.args.bytes.now c.loop-op.held.items c.note.new.held.items c.loop-op.invariant c.apply.ensures.once c.in_ok-apply.ensures.ok
    (subst (λ (l : Entries). (q : Path) → IsOneOf q c.note.new.held.items ↔ HoldsAfter (files_of l) c.args.bytes.now c.loop-op.held.items op q) c.deref.ensures.value c.in_ok-note.ensures))
