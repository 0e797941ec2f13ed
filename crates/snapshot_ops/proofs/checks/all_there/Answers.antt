use Rattle.std.proofs.Common.{refl, arith}
use Rattle.step_model.proofs.FaultLemmas.{at_exit}
use Rattle.snapshot_ops.specs.Cases.{unknown, unknown_among}
use Rattle.snapshot_ops.proofs.ListLemmas.{all_good, first_bad, good_more}
use Rattle.snapshot_ops.proofs.checks.all_there.Goals as goal

pub returns-in_err-there-clause-fault : goal.returns-in_err-there-clause-fault
returns-in_err-there-clause-fault c = λ v.
    let fault = c.in_err-there.field-0.0 in
    let snapshots = c.args.state.now.snapshots in
    at_exit c.from_residual.result fault _ c.from_residual.ensures.1
    (first_bad (unknown snapshots) (unknown_among snapshots) refl (λ x xs. refl) c.args.names.now c.loop-i.i c.index-names-i.result fault (c.loop-i.invariant v) c.loop-i-test.true c.index-names-i.is (c.in_err-there.ensures.fault v))

pub loop-i-preserved : goal.loop-i-preserved
loop-i-preserved c = λ v.
    let snapshots = c.args.state.now.snapshots in
    good_more (unknown snapshots) (unknown_among snapshots) refl (λ x xs. refl) c.args.names.now c.loop-i.i c.index-names-i.result (c.loop-i.invariant v) c.loop-i-test.true c.index-names-i.is (c.in_ok-there.ensures.good v)

pub returns-clause-good : goal.returns-clause-good
returns-clause-good c = λ v.
    let snapshots = c.args.state.now.snapshots in
    all_good (unknown snapshots) (unknown_among snapshots) refl (λ x xs. refl) c.args.names.now c.loop-i.i (c.loop-i.invariant v) (omega (arith, c.loop-i-test.false))
