use Rattle.std.proofs.Common.{◌≡◌, length, drop}
use Rattle.depend_pull.specs.Places.{places}
use Rattle.depend_pull.specs.Pull.{grown}
use Rattle.depend_pull.proofs.grow.take_rounds.Given as goal

abbrev pub invariant-loop-offer : goal.invariant-loop-offer
invariant-loop-offer l = record {
  places : l.places.items ≡ places l.flags l.archs l.taken.items;
  rounds : grown l.flags l.archs l.base l.source (length (drop l._offer-index l.source)) l.taken.items ≡ grown l.flags l.archs l.base l.source (length l.source) l.fn.taken.items;
}
