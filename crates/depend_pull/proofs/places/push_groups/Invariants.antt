use Rattle.std.proofs.Common.{◌≡◌, ◌++◌, take}
use Rattle.std.specs.List.{flat_map}
use Rattle.depend_pull.specs.Places.{places_for}
use Rattle.depend_pull.proofs.places.push_groups.Given as goal

abbrev pub invariant-loop-group : goal.invariant-loop-group
invariant-loop-group l = l.places.items ≡ l.fn.places.items ++ flat_map (λ group. places_for l.archs group) (take l.group-index l.groups)
