use Rattle.std.proofs.Common.{◌≡◌, map, take}
use Rattle.std.specs.List.{filter}
use Rattle.std.specs.Rc.{rc_value}
use Rattle.query_eval.specs.Truth.{matches}
use Rattle.mirror_update.proofs.filter.matching.Given as goal

abbrev pub invariant-loop-one : goal.invariant-loop-one
invariant-loop-one l = map rc_value l.found.items ≡ filter (matches l.query) (map rc_value (take l.one-index l.packages))
