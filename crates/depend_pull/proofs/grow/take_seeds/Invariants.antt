use Rattle.std.proofs.Common.{◌≡◌, ◌++◌, take}
use Rattle.depend_pull.specs.Places.{places}
use Rattle.depend_pull.proofs.grow.take_seeds.Given as goal

abbrev pub invariant-loop-seed : goal.invariant-loop-seed
invariant-loop-seed l = record {
  taken : l.taken.items ≡ l.fn.taken.items ++ take l.seed-index l.seeds;
  places : l.places.items ≡ l.fn.places.items ++ places l.flags l.archs (take l.seed-index l.seeds);
}
