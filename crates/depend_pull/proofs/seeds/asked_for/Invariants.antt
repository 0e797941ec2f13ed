use Rattle.std.proofs.Common.{◌≡◌, ◌&&◌, map, take}
use Rattle.std.specs.List.{filter}
use Rattle.std.specs.Rc.{rc_value}
use Rattle.query_eval.specs.Several.{some_true}
use Rattle.depend_pull.specs.Seeds.{is_for_some}
use Rattle.depend_pull.proofs.seeds.asked_for.Given as goal

abbrev pub invariant-loop-candidate : goal.invariant-loop-candidate
invariant-loop-candidate l = map rc_value l.found.items ≡ filter (λ p. some_true l.queries p && is_for_some l.archs p) (map rc_value (take l.candidate-index l.candidate-items))
