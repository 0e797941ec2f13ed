use Rattle.std.proofs.Common.{◌≡◌, map, take}
use Rattle.std.specs.List.{filter}
use Rattle.std.specs.Rc.{rc_value}
use Rattle.query_eval.specs.Truth.{matches}
use Rattle.step_model.proofs.queries.found_in.Given as goal

abbrev pub invariant-loop-candidate : goal.invariant-loop-candidate
invariant-loop-candidate l = map rc_value l.found.items ≡ filter (matches l.asked) (map rc_value (take l.candidate-index l.candidate-items))
