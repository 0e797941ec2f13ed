use Rattle.std.proofs.Common.{◌≡◌, drop}
use Rattle.machine_state.specs.State.{Valid}
use Rattle.snapshot_ops.specs.Cases.{unknown_among}
use Rattle.snapshot_ops.proofs.checks.all_there.Given as goal

abbrev pub invariant-loop-i : goal.invariant-loop-i
invariant-loop-i l = Valid l.state → unknown_among l.state.snapshots l.names ≡ unknown_among l.state.snapshots (drop l.i l.names)
