use Rattle.std.proofs.Common.{◌≡◌, map, take}
use Rattle.std.specs.List.{filter}
use Rattle.std.specs.Rc.{rc_value}
use Rattle.step_model.specs.Queries.{some_true}
use Rattle.step_model.proofs.queries.chosen_in.Given as goal

abbrev pub invariant-loop-candidate : goal.invariant-loop-candidate
invariant-loop-candidate l = map rc_value l.found.items ≡ filter (some_true l.asked) (map rc_value (take l.candidate-index l.candidate-items))
