use Rattle.std.proofs.Common.{◌≡◌, ◌&&◌, map, take}
use Rattle.std.specs.List.{filter}
use Rattle.std.specs.Rc.{rc_value}
use Rattle.package_list.specs.Sorted.{has}
use Rattle.depend_pull.specs.Seeds.{seed_cmp}
use Rattle.depend_pull.proofs.pull.those_in.Given as goal

abbrev pub invariant-loop-candidate : goal.invariant-loop-candidate
invariant-loop-candidate l = map rc_value l.found.items ≡ filter (has seed_cmp l.set.keys) (map rc_value (take l.candidate-index l.candidate-items))
