use Rattle.std.proofs.Common.{◌≡◌, None, Equal, sym, ap, ◌∙◌, subst}
use Rattle.digest_set.specs.Difference.{difference}
use Rattle.package_core.specs.Card.{Card, completed}
use Rattle.package_core.specs.Order.{package_cmp}
use Rattle.package_intake.proofs.TakenLemmas.{completed_same}
use Rattle.package_core.specs.Answers.{IsDifference}
use Rattle.package_intake.proofs.FaultLemmas.{differs_file, differs_own}
use Rattle.package_intake.proofs.body.completed.Goals as goal

pub returns-in-Ok-clause-same : goal.returns-in-Ok-clause-same
returns-in-Ok-clause-same c =
    let p = c.args.one.now in
    let found = c.args.found.now in
    let copied = c.in_ok-made.ensures in
    let agrees : difference p.said found ≡ None = ap (λ (x : Card). difference x.said found) (sym copied) ∙ c.in-Ok.ensures.agrees in
    subst (λ (q : Card). package_cmp p q ≡ Equal) (sym (c.in-Ok.ensures.ok ∙ ap (λ (x : Card). completed x found) copied)) (completed_same p found agrees)

pub returns-in-Err-Differs-clause-fault : goal.returns-in-Err-Differs-clause-fault
returns-in-Err-Differs-clause-fault c =
    let differ = subst (IsDifference (difference c.in_ok-made.made.said c.args.found.now)) c.in-Err-Differs.field-0-is c.in-Err-Differs.ensures.differs in
    differs_own c.args.path.now _ _ _ _ c.differs.ensures (c.in_ok-made.made.said, c.args.found.now, differ)

pub returns-in-Err-Differs-clause-mismatch : goal.returns-in-Err-Differs-clause-mismatch
returns-in-Err-Differs-clause-mismatch c =
    let differ = subst (IsDifference (difference c.in_ok-made.made.said c.args.found.now)) c.in-Err-Differs.field-0-is c.in-Err-Differs.ensures.differs in
    differs_file c.args.path.now c.args.one.now.said _ _ _ c.differs.result c.differs.ensures c.args.found.now (ap (λ (x : Card). difference x.said c.args.found.now) (sym c.in_ok-made.ensures) ∙ differ)
