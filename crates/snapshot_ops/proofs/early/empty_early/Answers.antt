use Rattle.step_model.specs.Names.{bad_name}
use Rattle.step_model.proofs.FaultLemmas.{at_exit, second_decides}
use Rattle.snapshot_ops.specs.Cases.{taken}
use Rattle.snapshot_ops.proofs.CaseLemmas.{taken_along}
use Rattle.snapshot_ops.proofs.early.empty_early.Goals as goal

pub returns-in_err-free-clause-fault : goal.returns-in_err-free-clause-fault
returns-in_err-free-clause-fault c = λ v.
    let fault = c.in_err-free.field-0.0 in
    let snapshots = c.args.state.now.snapshots in
    at_exit c.from_residual-in_err-free.result fault _ c.from_residual-in_err-free.ensures.1
    (second_decides (bad_name c.args.text.now) (taken snapshots c.args.text.now) fault c.in_ok-name.ensures.good (taken_along snapshots _ _ fault c.in_ok-name.ensures.same (c.in_err-free.ensures.fault v)))
