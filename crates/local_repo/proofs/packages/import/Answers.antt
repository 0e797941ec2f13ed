use Rattle.std.proofs.Common.{◌∙◌, ℕ, List, ap, sym, None}
use Rattle.command_value.specs.Plain.{plain, plain_follow, of_repo, repo_import}
use Rattle.step_model.proofs.FaultLemmas.{ok_along, refused_along}
use Rattle.local_repo.specs.Cases.{repo_case}
use Rattle.local_repo.proofs.CaseLemmas.{case_along, is_import}
use Rattle.local_repo.proofs.packages.import.Goals as goal

pub returns-in-RepoImport-clause-ok : goal.returns-in-RepoImport-clause-ok
unfolding repo_case
returns-in-RepoImport-clause-ok g c = λ k arrived e is v.
    ok_along None c.args.state.now _ _ arrived c.import_packages.result (case_along c.args.state.now c.args.command.now k _ e (ap plain c.in-RepoImport.is ∙ ap (λ (q : List (List ℕ)). of_repo (repo_import c.in-RepoImport.dry_run c.in-RepoImport.with_deps (plain_follow c.in-RepoImport.follow) c.in-RepoImport.mirror c.in-RepoImport.repo q)) (sym c.deref.ensures.value))) (c.import_packages.ensures.ok arrived v)

pub returns-in-RepoImport-clause-fault : goal.returns-in-RepoImport-clause-fault
unfolding repo_case
returns-in-RepoImport-clause-fault g c = λ k arrived e is v.
    refused_along _ _ _ _ _ arrived c.import_packages.result (case_along c.args.state.now c.args.command.now k _ e (ap plain c.in-RepoImport.is ∙ ap (λ (q : List (List ℕ)). of_repo (repo_import c.in-RepoImport.dry_run c.in-RepoImport.with_deps (plain_follow c.in-RepoImport.follow) c.in-RepoImport.mirror c.in-RepoImport.repo q)) (sym c.deref.ensures.value))) (c.import_packages.ensures.fault arrived v)

pub returns-in_default-clause-fault : goal.returns-in_default-clause-fault
returns-in_default-clause-fault g c = λ k arrived e is v. absurd (is_import c.args.command.now k e is c.in_default.not-RepoImport)
