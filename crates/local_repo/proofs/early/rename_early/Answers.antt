use Rattle.std.proofs.Common.{◌≡◌, ℕ, List, None, subst}
use Rattle.step_model.specs.Names.{bad_name}
use Rattle.step_model.proofs.FaultLemmas.{at_exit, second_decides, first_decides}
use Rattle.local_repo.specs.Cases.{repo_case, taken}
use Rattle.local_repo.proofs.CaseLemmas.{taken_along}
use Rattle.repo_packages.specs.PackageCases.{unknown}
use Rattle.repo_packages.proofs.CaseLemmas.{unknown_along}
use Rattle.local_repo.proofs.early.rename_early.Goals as goal

pub returns-in_err-free-clause-fault : goal.returns-in_err-free-clause-fault
unfolding repo_case
returns-in_err-free-clause-fault c = λ v.
    let fault = c.in_err-free.field-0.0 in
    let from = c.args.from.now in
    let to = c.args.to.now in
    let repos = c.args.state.now.repos in
    at_exit c.from_residual-in_err-free.result fault _ c.from_residual-in_err-free.ensures.1
    (second_decides (bad_name from) _ fault c.in_ok-before.ensures.good
    (second_decides (bad_name to) _ fault c.in_ok-after.ensures.good
    (first_decides (taken repos to) (unknown repos from) fault (taken_along repos _ _ fault c.in_ok-after.ensures.same (c.in_err-free.ensures.fault v)))))

pub returns-in_err-there-clause-fault : goal.returns-in_err-there-clause-fault
unfolding repo_case
returns-in_err-there-clause-fault c = λ v.
    let fault = c.in_err-there.field-0.0 in
    let from = c.args.from.now in
    let to = c.args.to.now in
    let repos = c.args.state.now.repos in
    let free = subst (λ (n : List ℕ). taken repos n ≡ None) c.in_ok-after.ensures.same (c.in_ok-free.ensures.good v) in
    at_exit c.from_residual-in_err-there.result fault _ c.from_residual-in_err-there.ensures.1
    (second_decides (bad_name from) _ fault c.in_ok-before.ensures.good
    (second_decides (bad_name to) _ fault c.in_ok-after.ensures.good
    (second_decides (taken repos to) (unknown repos from) fault free (unknown_along repos _ _ fault c.in_ok-before.ensures.same (c.in_err-there.ensures.fault v)))))
