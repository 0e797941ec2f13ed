use Rattle.std.proofs.Common.{arith}
use Rattle.step_model.proofs.FaultLemmas.{at_exit}
use Rattle.snapshot_ops.proofs.MergeLemmas.{merge_ends, merge_more, merge_refused, never_unknown}
use Rattle.snapshot_ops.proofs.merging.merged.Goals as goal

pub returns-in_err-source-clause-fault : goal.returns-in_err-source-clause-fault
returns-in_err-source-clause-fault c = λ v known.
    let fault = c.in_err-source.field-0.0 in
    at_exit c.from_residual.result fault _ c.from_residual.ensures.1
    (never_unknown _ c.args.state.now.snapshots c.args.names.now c.loop-i.i c.index-names-i.result fault known c.loop-i-test.true c.index-names-i.is (c.in_err-source.ensures.fault v))

pub returns-in_err-join_source-clause-fault : goal.returns-in_err-join_source-clause-fault
returns-in_err-join_source-clause-fault c = λ v known.
    let fault = c.in_err-join_source.field-0.0 in
    at_exit c.from_residual-in_err-join_source.result fault _ c.from_residual-in_err-join_source.ensures.1
    (merge_refused c.args.state.now c.args.way c.args.names.now c.loop-i.i c.loop-i.list (c.loop-i.invariant v) c.index-names-i.result c.loop-i-test.true c.index-names-i.is c.in_ok-source.source.now (c.in_ok-source.ensures.found v) fault c.in_err-join_source.ensures.fault)

pub loop-i-preserved : goal.loop-i-preserved
loop-i-preserved c = λ v.
    merge_more c.args.state.now c.args.way c.args.names.now c.loop-i.i c.loop-i.list (c.loop-i.invariant v) c.index-names-i.result c.loop-i-test.true c.index-names-i.is c.in_ok-source.source.now (c.in_ok-source.ensures.found v)
    c.join_source.new.own c.in_ok-join_source.ensures.good c.in_ok-join_source.ensures.same

pub returns-clause-good : goal.returns-clause-good
returns-clause-good c = λ v. merge_ends c.args.state.now c.args.way c.args.names.now c.loop-i.i c.loop-i.list (c.loop-i.invariant v) (omega (arith, c.loop-i-test.false))
