use Rattle.std.proofs.Common.{◌∙◌, ℕ, List, ap, sym, None}
use Rattle.command_value.specs.Plain.{plain, plain_follow, of_repo, repo_copy}
use Rattle.step_model.proofs.FaultLemmas.{ok_along, refused_along}
use Rattle.local_repo.specs.Cases.{repo_case}
use Rattle.local_repo.proofs.CaseLemmas.{case_along, is_copy}
use Rattle.local_repo.proofs.packages.copy.Goals as goal

pub returns-in-RepoCopy-clause-ok : goal.returns-in-RepoCopy-clause-ok
unfolding repo_case
returns-in-RepoCopy-clause-ok g c = λ k arrived e is v.
    ok_along None c.args.state.now _ _ arrived c.copy_packages.result (case_along c.args.state.now c.args.command.now k _ e (ap plain c.in-RepoCopy.is ∙ ap (λ (q : List (List ℕ)). of_repo (repo_copy c.in-RepoCopy.dry_run c.in-RepoCopy.with_deps (plain_follow c.in-RepoCopy.follow) c.in-RepoCopy.source c.in-RepoCopy.destination q)) (sym c.deref.ensures.value))) (c.copy_packages.ensures.ok arrived v)

pub returns-in-RepoCopy-clause-fault : goal.returns-in-RepoCopy-clause-fault
unfolding repo_case
returns-in-RepoCopy-clause-fault g c = λ k arrived e is v.
    refused_along _ _ _ _ _ arrived c.copy_packages.result (case_along c.args.state.now c.args.command.now k _ e (ap plain c.in-RepoCopy.is ∙ ap (λ (q : List (List ℕ)). of_repo (repo_copy c.in-RepoCopy.dry_run c.in-RepoCopy.with_deps (plain_follow c.in-RepoCopy.follow) c.in-RepoCopy.source c.in-RepoCopy.destination q)) (sym c.deref.ensures.value))) (c.copy_packages.ensures.fault arrived v)

pub returns-in_default-clause-fault : goal.returns-in_default-clause-fault
returns-in_default-clause-fault g c = λ k arrived e is v. absurd (is_copy c.args.command.now k e is c.in_default.not-RepoCopy)
