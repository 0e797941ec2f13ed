use Rattle.std.proofs.Common.{◌∙◌, ℕ, List, ap, sym, None}
use Rattle.command_value.specs.Plain.{plain, of_repo, repo_remove}
use Rattle.step_model.proofs.FaultLemmas.{ok_along, refused_along}
use Rattle.local_repo.specs.Cases.{repo_case}
use Rattle.local_repo.proofs.CaseLemmas.{case_along, is_remove}
use Rattle.local_repo.proofs.packages.remove.Goals as goal

pub returns-in-RepoRemove-clause-ok : goal.returns-in-RepoRemove-clause-ok
unfolding repo_case
returns-in-RepoRemove-clause-ok g c = λ k arrived e is v.
    ok_along None c.args.state.now _ _ arrived c.remove_packages.result (case_along c.args.state.now c.args.command.now k _ e (ap plain c.in-RepoRemove.is ∙ ap (λ (q : List (List ℕ)). of_repo (repo_remove c.in-RepoRemove.dry_run c.in-RepoRemove.name q)) (sym c.deref.ensures.value))) (c.remove_packages.ensures.ok arrived v)

pub returns-in-RepoRemove-clause-fault : goal.returns-in-RepoRemove-clause-fault
unfolding repo_case
returns-in-RepoRemove-clause-fault g c = λ k arrived e is v.
    refused_along _ _ _ _ _ arrived c.remove_packages.result (case_along c.args.state.now c.args.command.now k _ e (ap plain c.in-RepoRemove.is ∙ ap (λ (q : List (List ℕ)). of_repo (repo_remove c.in-RepoRemove.dry_run c.in-RepoRemove.name q)) (sym c.deref.ensures.value))) (c.remove_packages.ensures.fault arrived v)

pub returns-in_default-clause-fault : goal.returns-in_default-clause-fault
returns-in_default-clause-fault g c = λ k arrived e is v. absurd (is_remove c.args.command.now k e is c.in_default.not-RepoRemove)
