use Rattle.std.proofs.Common.{None}
use Rattle.step_model.proofs.FaultLemmas.{at_exit, fault_refuses}
use Rattle.local_repo.specs.Cases.{repo_case}
use Rattle.local_repo.proofs.CaseLemmas.{nothing_wanted}
use Rattle.local_repo.proofs.named.drop_needs.Goals as goal

pub returns-in_err-drop_early-clause-fault : goal.returns-in_err-drop_early-clause-fault
returns-in_err-drop_early-clause-fault c = λ v.
    let fault = c.in_err-drop_early.field-0.0 in
    at_exit c.from_residual.result fault _ c.from_residual.ensures.1 (fault_refuses None _ fault (c.in_err-drop_early.ensures.fault v))

pub returns-clause-ok : goal.returns-clause-ok
unfolding repo_case
returns-clause-ok c = λ v. nothing_wanted _ _ (c.in_ok-drop_early.ensures.good v)
