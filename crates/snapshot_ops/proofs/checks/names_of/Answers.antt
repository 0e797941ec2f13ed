use Rattle.std.proofs.Common.{refl, arith}
use Rattle.step_model.specs.Names.{bad_name}
use Rattle.step_model.proofs.FaultLemmas.{at_exit}
use Rattle.snapshot_ops.specs.Cases.{bad_among}
use Rattle.snapshot_ops.proofs.ListLemmas.{all_good, first_bad}
use Rattle.snapshot_ops.proofs.checks.names_of.Goals as goal

pub returns-in_err-name_of-clause-fault : goal.returns-in_err-name_of-clause-fault
returns-in_err-name_of-clause-fault c =
    let fault = c.in_err-name_of.field-0.0 in
    at_exit c.from_residual.result fault _ c.from_residual.ensures.1
    (first_bad bad_name bad_among refl (λ x xs. refl) c.args.texts.now c.loop-i.i c.index-texts-i.result fault c.loop-i.invariant.good c.loop-i-test.true c.index-texts-i.is c.in_err-name_of.ensures.fault)

pub returns-clause-good : goal.returns-clause-good
returns-clause-good c = all_good bad_name bad_among refl (λ x xs. refl) c.args.texts.now c.loop-i.i c.loop-i.invariant.good (omega (arith, c.loop-i-test.false))
