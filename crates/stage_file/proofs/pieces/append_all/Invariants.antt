use Rattle.std.proofs.Common.{◌≤◌, ◌-◌, length, take}
use Rattle.ap_host.specs.Changes.{GoesOn}
use Rattle.stage_file.specs.Stage.{AppendsSoFar}
use Rattle.stage_file.proofs.pieces.append_all.Given as goal

abbrev pub invariant-loop-at : goal.invariant-loop-at
invariant-loop-at g l = record {
  within : l.at ≤ length l.bytes;
  log : GoesOn (g.H.Host.log l.fn.host) (g.H.Host.log l.host) (AppendsSoFar l.path (take l.at l.bytes));
  later : g.H.Host.faults l.fn.host ≤ g.H.Host.faults l.host;
}

abbrev pub decreases-loop-at : goal.decreases-loop-at
decreases-loop-at g l = length l.bytes - l.at
