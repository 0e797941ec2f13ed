use Rattle.std.proofs.Common.{◌≡◌, ◌≤◌, ◌-◌, length}
use Rattle.std.specs.Option.{ForSome}
use Rattle.ap_host.specs.Disk.{live_of}
use Rattle.hash_pool.specs.Reading.{IsReadSoFar}
use Rattle.hash_pool.proofs.reading.read_file.Given as goal

abbrev pub invariant-pieces : goal.invariant-pieces
invariant-pieces g l = record {
  same : g.H.Host.log l.host ≡ g.H.Host.log l.fn.host;
  later : g.H.Host.faults l.fn.host ≤ g.H.Host.faults l.host;
  bound : length l.bytes ≤ l.upto;
  read : ForSome (g.H.Host.log l.fn.host) (λ x. IsReadSoFar (live_of x l.path) l.bytes);
}

abbrev pub decreases-pieces : goal.decreases-pieces
decreases-pieces g l = l.upto - length l.bytes
