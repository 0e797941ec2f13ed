use Rattle.std.proofs.Common.{◌≡◌, ◌≤◌, ◌-◌, length}
use Rattle.std.specs.Option.{ForSome}
use Rattle.hash_pool.specs.Reading.{IsReadSoFar}
use Rattle.hash_pool.proofs.reading.read_input.Given as goal

abbrev pub invariant-pieces : goal.invariant-pieces
invariant-pieces g l = record {
  same : g.I.Inbox.map l.inbox ≡ g.I.Inbox.map l.fn.inbox;
  later : g.I.Inbox.faults l.fn.inbox ≤ g.I.Inbox.faults l.inbox;
  bound : length l.bytes ≤ l.upto;
  read : ForSome (g.I.Inbox.map l.fn.inbox) (λ f. IsReadSoFar (f l.path) l.bytes);
}

abbrev pub decreases-pieces : goal.decreases-pieces
decreases-pieces g l = l.upto - length l.bytes
