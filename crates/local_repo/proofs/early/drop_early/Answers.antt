use Rattle.std.proofs.Common.{◌≡◌, ℕ, List, None, subst}
use Rattle.machine_state.specs.declared.limit.Kind.TheVariants as kinds
use Rattle.machine_state.specs.Sources.{in_use}
use Rattle.step_model.specs.Names.{bad_name}
use Rattle.step_model.proofs.FaultLemmas.{at_exit, second_decides, first_decides}
use Rattle.local_repo.specs.Cases.{repo_case}
use Rattle.local_repo.proofs.CaseLemmas.{used_along}
use Rattle.repo_packages.specs.PackageCases.{unknown}
use Rattle.repo_packages.proofs.CaseLemmas.{unknown_along}
use Rattle.local_repo.proofs.early.drop_early.Goals as goal

pub returns-in_err-there-clause-fault : goal.returns-in_err-there-clause-fault
unfolding repo_case
returns-in_err-there-clause-fault c = λ v.
    let fault = c.in_err-there.field-0.0 in
    let name = c.args.text.now in
    let state = c.args.state.now in
    at_exit c.from_residual-in_err-there.result fault _ c.from_residual-in_err-there.ensures.1
    (second_decides (bad_name name) _ fault c.in_ok-name.ensures.good
    (first_decides (unknown state.repos name) (in_use kinds.Repo name state.publications) fault (unknown_along state.repos _ _ fault c.in_ok-name.ensures.same (c.in_err-there.ensures.fault v))))

pub returns-in_err-unused-clause-fault : goal.returns-in_err-unused-clause-fault
unfolding repo_case
returns-in_err-unused-clause-fault c = λ v.
    let fault = c.in_err-unused.field-0.0 in
    let name = c.args.text.now in
    let state = c.args.state.now in
    let there = subst (λ (n : List ℕ). unknown state.repos n ≡ None) c.in_ok-name.ensures.same (c.in_ok-there.ensures.good v) in
    at_exit c.from_residual-in_err-unused.result fault _ c.from_residual-in_err-unused.ensures.1
    (second_decides (bad_name name) _ fault c.in_ok-name.ensures.good
    (second_decides (unknown state.repos name) (in_use kinds.Repo name state.publications) fault there (used_along state.publications _ _ fault c.in_ok-name.ensures.same c.in_err-unused.ensures.fault)))
