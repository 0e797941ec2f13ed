use Rattle.std.proofs.Common.{◌≡◌, ◌≤◌}
use Rattle.ap_host.specs.Changes.{GoesOn}
use Rattle.stage_file.specs.Stage.{IsMarked, ClearsFirst}
use Rattle.stage_file.proofs.staging.Stage.clear.Given as goal

abbrev pub invariant-loop-name : goal.invariant-loop-name
invariant-loop-name g l = record {
  next : l.self.next ≡ l.fn.self.next;
  log : GoesOn (g.H.Host.log l.fn.host) (g.H.Host.log l.host) (λ start ops. IsMarked l.fn.self l.self ops × ClearsFirst l.name-items l.name-index start ops);
  later : g.H.Host.faults l.fn.host ≤ g.H.Host.faults l.host;
}
