use Rattle.std.proofs.Common.{◌≡◌, ◌++◌, take}
use Rattle.depend_pull.specs.Places.{places_for}
use Rattle.depend_pull.proofs.places.push_group.Given as goal

abbrev pub invariant-loop-arch : goal.invariant-loop-arch
invariant-loop-arch l = l.places.items ≡ l.fn.places.items ++ places_for (take l.arch-index l.archs) l.group
