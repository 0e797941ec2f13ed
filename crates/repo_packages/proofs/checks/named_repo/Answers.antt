use Rattle.step_model.specs.Names.{bad_name}
use Rattle.step_model.proofs.FaultLemmas.{err_map, second_decides}
use Rattle.repo_packages.specs.PackageCases.{unknown}
use Rattle.repo_packages.proofs.CaseLemmas.{unknown_along}
use Rattle.repo_packages.proofs.checks.named_repo.Goals as goal

pub returns-clause-fault : goal.returns-clause-fault
returns-clause-fault c = λ v.
    err_map c.there.result _ _
    (λ fault h. second_decides (bad_name c.args.text.now) (unknown c.args.state.now.repos c.args.text.now) fault c.in_ok-name.ensures.good (unknown_along c.args.state.now.repos _ _ fault c.in_ok-name.ensures.same h))
    (c.there.ensures.fault v)
