use Rattle.step_model.proofs.AskingLemmas.{asking_wanted, first_told, queries_told}
use Rattle.step_model.proofs.FaultLemmas.{at_exit, keeps_exit}
use Rattle.repo_packages.specs.PackageCases.{bad_repo, removal_case}
use Rattle.repo_packages.proofs.needs.removal_needs.Goals as goal

pub returns-in_err-named_repo-clause-fault : goal.returns-in_err-named_repo-clause-fault
unfolding removal_case
returns-in_err-named_repo-clause-fault g c = λ dry v.
    let fault = c.in_err-named_repo.field-0.0 in
    at_exit c.from_residual.result fault _ c.from_residual.ensures.1 (first_told (bad_repo c.args.state.now c.args.name.now) c.args.queries.now _ _ _ _ fault (c.in_err-named_repo.ensures.fault v))

pub returns-in_err-prepared_all-clause-fault : goal.returns-in_err-prepared_all-clause-fault
unfolding removal_case
returns-in_err-prepared_all-clause-fault g c = λ dry v.
    let fault = c.in_err-prepared_all.field-0.0 in
    at_exit c.from_residual-in_err-prepared_all.result fault _ c.from_residual-in_err-prepared_all.ensures.1
    (queries_told (bad_repo c.args.state.now c.args.name.now) c.args.queries.now _ _ _ _ fault (c.in_ok-named_repo.ensures.good v) c.in_err-prepared_all.ensures.fault)

pub returns-in_err-prepared_all-clause-kept : goal.returns-in_err-prepared_all-clause-kept
returns-in_err-prepared_all-clause-kept g c = keeps_exit _ _ c.from_residual-in_err-prepared_all.result c.in_err-prepared_all.field-0.0 c.from_residual-in_err-prepared_all.ensures.1 c.in_err-prepared_all.ensures.kept

pub returns-clause-ok : goal.returns-clause-ok
unfolding removal_case
returns-clause-ok g c = λ dry v. asking_wanted (bad_repo c.args.state.now c.args.name.now) c.args.queries.now _ (c.in_ok-named_repo.ensures.good v) c.in_ok-prepared_all.ensures.good
