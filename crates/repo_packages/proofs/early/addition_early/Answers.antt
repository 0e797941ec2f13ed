use Rattle.step_model.specs.Names.{bad_name, bad_folder}
use Rattle.step_model.proofs.FaultLemmas.{at_exit, second_decides}
use Rattle.repo_packages.specs.PackageCases.{addition_case, unknown}
use Rattle.repo_packages.proofs.CaseLemmas.{unknown_along}
use Rattle.repo_packages.proofs.early.addition_early.Goals as goal

pub returns-in_err-there-clause-fault : goal.returns-in_err-there-clause-fault
unfolding addition_case
returns-in_err-there-clause-fault c = λ v.
    let fault = c.in_err-there.field-0.0 in
    let name = c.args.name.now in
    at_exit c.from_residual-in_err-there.result fault _ c.from_residual-in_err-there.ensures.1
    (second_decides (bad_name name) _ fault c.in_ok-name.ensures.good
    (second_decides (bad_folder c.args.folder.now) (unknown c.args.state.now.repos name) fault c.in_ok-folder.ensures.good
    (unknown_along c.args.state.now.repos _ _ fault c.in_ok-name.ensures.same (c.in_err-there.ensures.fault v))))
