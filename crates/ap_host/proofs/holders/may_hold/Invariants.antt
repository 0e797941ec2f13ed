use Rattle.std.proofs.Common.{take}
use Rattle.ap_host.proofs.HolderLemmas.{Holding}
use Rattle.ap_host.proofs.holders.may_hold.Given as goal

abbrev pub invariant-loop-op : goal.invariant-loop-op
invariant-loop-op l = Holding l.base l.table.items (take l.op-index l.ops) l.bytes l.held.items
