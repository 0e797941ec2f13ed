use Rattle.step_model.specs.Names.{bad_name}
use Rattle.step_model.proofs.FaultLemmas.{err_map, second_decides}
use Rattle.local_repo.specs.Cases.{repo_case}
use Rattle.local_repo.specs.Settings.{bad_settings}
use Rattle.repo_packages.specs.PackageCases.{unknown}
use Rattle.repo_packages.proofs.CaseLemmas.{unknown_along}
use Rattle.local_repo.proofs.early.edit_early.Goals as goal

pub returns-clause-fault : goal.returns-clause-fault
unfolding repo_case
returns-clause-fault c = λ v.
    let name = c.args.text.now in
    let repos = c.args.state.now.repos in
    err_map c.there.result _ _
    (λ fault h. second_decides (bad_settings c.args.comment.now c.args.distribution.now c.args.component.now) _ fault c.in_ok-check_settings.ensures.good
    (second_decides (bad_name name) (unknown repos name) fault c.in_ok-name.ensures.good (unknown_along repos _ _ fault c.in_ok-name.ensures.same h)))
    (c.there.ensures.fault v)
