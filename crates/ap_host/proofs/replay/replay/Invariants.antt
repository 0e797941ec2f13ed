use Rattle.std.proofs.Common.{take}
use Rattle.ap_host.specs.Mem.{IsTableOf}
use Rattle.ap_host.proofs.replay.replay.Given as goal

abbrev pub invariant-loop-op : goal.invariant-loop-op
invariant-loop-op l = IsTableOf l.base l.table.items (take l.op-index l.ops)
