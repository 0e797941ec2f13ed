use Rattle.std.proofs.Common.{refl, ⊎_elim}
use Rattle.query_eval.proofs.Preparing.{bad_one, large_one}
use Rattle.query_eval.proofs.prepare.expression.Goals as goal

pub returns-in-Err-Syntax-clause-prepares : goal.returns-in-Err-Syntax-clause-prepares
returns-in-Err-Syntax-clause-prepares g c =
    let facts = rw c.in-Err-Syntax.field-0-is at c.in-Err-Syntax.ensures in
    bad_one c.args.before c.in-Some.number c.args.text.now _ _ _ _ c.in-Some.ensures.1 (facts.syntax refl) facts.never_falls (⊎_elim (λ s. absurd (cc)) (λ k. k) facts.kept)

pub returns-in-Err-Size-clause-prepares : goal.returns-in-Err-Size-clause-prepares
returns-in-Err-Size-clause-prepares g c =
    let facts = rw c.in-Err-Size.field-0-is at c.in-Err-Size.ensures in
    large_one c.args.before c.in-Some.number c.args.text.now _ _ _ _ c.in-Some.ensures.1 (facts.size refl) (facts.named refl) facts.never_falls
