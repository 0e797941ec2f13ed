use Rattle.std.proofs.Common.{take}
use Rattle.ap_host.specs.Table.{files_of}
use Rattle.ap_host.specs.Images.{AreNamed}
use Rattle.ap_host.proofs.names.named_paths.Given as goal

abbrev pub invariant-loop-op : goal.invariant-loop-op
invariant-loop-op l = AreNamed (record { base = files_of l.base; ops = take l.op-index l.ops }) l.paths.items
