use Rattle.step_model.specs.Names.{bad_name}
use Rattle.step_model.proofs.FaultLemmas.{at_exit, second_decides}
use Rattle.local_repo.specs.Cases.{repo_case, taken}
use Rattle.local_repo.specs.Settings.{bad_settings}
use Rattle.local_repo.proofs.CaseLemmas.{taken_along}
use Rattle.local_repo.proofs.early.create_early.Goals as goal

pub returns-in_err-free-clause-fault : goal.returns-in_err-free-clause-fault
unfolding repo_case
returns-in_err-free-clause-fault c = λ v.
    let fault = c.in_err-free.field-0.0 in
    let name = c.args.text.now in
    let repos = c.args.state.now.repos in
    at_exit c.from_residual-in_err-free.result fault _ c.from_residual-in_err-free.ensures.1
    (second_decides (bad_settings c.args.comment.now c.args.distribution.now c.args.component.now) _ fault c.in_ok-check_settings.ensures.good
    (second_decides (bad_name name) (taken repos name) fault c.in_ok-name.ensures.good
    (taken_along repos _ _ fault c.in_ok-name.ensures.same (c.in_err-free.ensures.fault v))))
