use Rattle.std.proofs.Common.{None}
use Rattle.step_model.proofs.FaultLemmas.{at_exit, fault_refuses}
use Rattle.repo_packages.proofs.CaseLemmas.{add_wanted}
use Rattle.repo_packages.proofs.needs.addition_needs.Goals as goal

pub returns-in_err-name-clause-fault : goal.returns-in_err-name-clause-fault
returns-in_err-name-clause-fault c = λ v.
    let fault = c.in_err-name.field-0.0 in
    at_exit c.from_residual.result fault _ c.from_residual.ensures.1 (fault_refuses None _ fault (c.in_err-name.ensures.fault v))

pub returns-clause-ok : goal.returns-clause-ok
returns-clause-ok c = λ v. add_wanted c.args.state.now c.args.name.now c.args.folder.now _ (c.in_ok-name.ensures.good v) (cc (c.in_ok-name.ensures.name, c.in_ok-name.ensures.folder))
