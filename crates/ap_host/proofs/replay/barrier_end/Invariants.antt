use Rattle.std.proofs.Common.{◌≤◌, length, drop}
use Rattle.ap_host.specs.Drawing.{HaveNoBarrier}
use Rattle.ap_host.proofs.replay.barrier_end.Given as goal

abbrev pub decreases-loop-at : goal.decreases-loop-at
decreases-loop-at l = l.at

abbrev pub invariant-loop-at : goal.invariant-loop-at
invariant-loop-at l = (l.at ≤ length l.ops) × HaveNoBarrier (drop l.at l.ops)
