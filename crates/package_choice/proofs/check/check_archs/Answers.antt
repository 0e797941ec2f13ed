use Rattle.std.proofs.Common.{refl, arith}
use Rattle.step_model.proofs.FaultLemmas.{at_exit}
use Rattle.package_choice.specs.Choice.{bad_arch, bad_archs}
use Rattle.package_choice.proofs.ListLemmas.{all_good, first_bad, good_more}
use Rattle.package_choice.proofs.check.check_archs.Goals as goal

pub loop-i-preserved : goal.loop-i-preserved
loop-i-preserved c = good_more bad_arch bad_archs refl (λ x xs. refl) c.args.texts.now c.loop-i.i c.index-texts-i.result c.loop-i.invariant c.loop-i-test.true c.index-texts-i.is c.in_ok-check_arch.ensures.good

pub returns-in_err-check_arch-clause-fault : goal.returns-in_err-check_arch-clause-fault
returns-in_err-check_arch-clause-fault c =
    let fault = c.in_err-check_arch.field-0.0 in
    at_exit c.from_residual.result fault _ c.from_residual.ensures.1
    (first_bad bad_arch bad_archs refl (λ x xs. refl) c.args.texts.now c.loop-i.i c.index-texts-i.result fault c.loop-i.invariant c.loop-i-test.true c.index-texts-i.is c.in_err-check_arch.ensures.fault)

pub returns-clause-good : goal.returns-clause-good
returns-clause-good c = all_good bad_arch bad_archs refl (λ x xs. refl) c.args.texts.now c.loop-i.i c.loop-i.invariant (omega (arith, c.loop-i-test.false))
