use Rattle.std.specs.Prelude.{Result, Ok, Err, OnOk}
use Rattle.query_eval.proofs.Expressions.{pattern_as_read}
use Rattle.query_eval.proofs.expression.Expression.build.Goals as goal

either_way : {X E : Type 0} (P : Type 0) (r : Result X E) → P → OnOk r P
either_way P (Ok x) p = p
either_way P (Err e) p = tt

pub returns-in-Ok-clause-read : goal.returns-in-Ok-clause-read
returns-in-Ok-clause-read g c = either_way _ c.shared.result (pattern_as_read c.in-Ok.regex c.args.text.now c.in-Ok.ensures.read)
