use Rattle.std.proofs.Common.{None}
use Rattle.step_model.proofs.FaultLemmas.{at_exit, fault_refuses}
use Rattle.snapshot_ops.proofs.CaseLemmas.{plain_wanted}
use Rattle.snapshot_ops.proofs.family.fetched_needs.Goals as goal

pub returns-in_err-fetched_early-clause-fault : goal.returns-in_err-fetched_early-clause-fault
returns-in_err-fetched_early-clause-fault c = λ v.
    let fault = c.in_err-fetched_early.field-0.0 in
    at_exit c.from_residual.result fault _ c.from_residual.ensures.1 (fault_refuses None _ fault (c.in_err-fetched_early.ensures.fault v))

pub returns-clause-ok : goal.returns-clause-ok
returns-clause-ok c = λ v. plain_wanted _ _ (c.in_ok-fetched_early.ensures.good v)
