use Rattle.std.proofs.Common.{ℕ, List, refl, arith}
use Rattle.step_model.proofs.FaultLemmas.{at_exit}
use Rattle.mirror_ops.specs.Settings.{bad_among, bad_word, fits}
use Rattle.mirror_ops.proofs.ListLemmas.{all_good, first_bad, good_more}
use Rattle.mirror_ops.proofs.names.check_names.Goals as goal

pub loop-i-preserved : goal.loop-i-preserved
loop-i-preserved c =
    let part = c.args.part in
    good_more (λ (text : List ℕ). bad_word (fits part text) text) (bad_among part) refl (λ x xs. refl) c.args.texts.now c.loop-i.i c.index-texts-i.result c.loop-i.invariant c.loop-i-test.true c.index-texts-i.is c.in_ok-check_word.ensures.good

pub returns-in_err-check_word-clause-fault : goal.returns-in_err-check_word-clause-fault
returns-in_err-check_word-clause-fault c =
    let part = c.args.part in
    let fault = c.in_err-check_word.field-0.0 in
    at_exit c.from_residual.result fault _ c.from_residual.ensures.1
    (first_bad (λ (text : List ℕ). bad_word (fits part text) text) (bad_among part) refl (λ x xs. refl) c.args.texts.now c.loop-i.i c.index-texts-i.result fault c.loop-i.invariant c.loop-i-test.true c.index-texts-i.is c.in_err-check_word.ensures.fault)

pub returns-clause-good : goal.returns-clause-good
returns-clause-good c =
    let part = c.args.part in
    all_good (λ (text : List ℕ). bad_word (fits part text) text) (bad_among part) refl (λ x xs. refl) c.args.texts.now c.loop-i.i c.loop-i.invariant (omega (arith, c.loop-i-test.false))
