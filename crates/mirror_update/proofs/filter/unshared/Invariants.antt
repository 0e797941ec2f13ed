use Rattle.std.proofs.Common.{◌≡◌, map, take}
use Rattle.std.specs.Rc.{rc_value}
use Rattle.mirror_update.proofs.filter.unshared.Given as goal

abbrev pub invariant-loop-one : goal.invariant-loop-one
invariant-loop-one l = map rc_value l.made.items ≡ map rc_value (take l.one-index l.one-items)
