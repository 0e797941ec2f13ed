use Rattle.std.proofs.Common.{◌≡◌, map, drop}
use Rattle.machine_state.specs.State.{Valid}
use Rattle.snapshot_ops.specs.Cases.{list_of}
use Rattle.snapshot_ops.specs.Merges.{merge_behind, merge_of}
use Rattle.snapshot_ops.proofs.merging.merged.Given as goal

abbrev pub invariant-loop-i : goal.invariant-loop-i
invariant-loop-i l = Valid l.state → merge_of l.way (map (list_of l.state) l.names) ≡ merge_behind l.way l.list (map (list_of l.state) (drop l.i l.names))
