use Rattle.std.proofs.Common.{◌≡◌, map, take}
use Rattle.std.specs.Rc.{rc_value}
use Rattle.package_list.specs.Lists.{without}
use Rattle.package_list.proofs.parts.without_of.Given as goal

abbrev pub invariant-loop-candidate : goal.invariant-loop-candidate
invariant-loop-candidate l = map rc_value l.left.items ≡ without (map rc_value (take l.candidate-index l.candidate-items)) l.gone
