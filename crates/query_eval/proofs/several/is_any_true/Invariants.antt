use Rattle.std.proofs.Common.{◌≡◌, false, take}
use Rattle.query_eval.specs.Several.{some_true}
use Rattle.query_eval.proofs.several.is_any_true.Given as goal

abbrev pub invariant-loop-query : goal.invariant-loop-query
invariant-loop-query l = some_true (take l.query-index l.queries) l.candidate ≡ false
