use Rattle.std.proofs.Common.{◌∙◌, ℕ, List, ap, sym, None}
use Rattle.command_value.specs.Plain.{plain, plain_follow, of_repo, repo_move}
use Rattle.step_model.proofs.FaultLemmas.{ok_along, refused_along}
use Rattle.local_repo.specs.Cases.{repo_case}
use Rattle.local_repo.proofs.CaseLemmas.{case_along, is_move}
use Rattle.local_repo.proofs.packages.transfer.Goals as goal

pub returns-in-RepoMove-clause-ok : goal.returns-in-RepoMove-clause-ok
unfolding repo_case
returns-in-RepoMove-clause-ok g c = λ k arrived e is v.
    ok_along None c.args.state.now _ _ arrived c.move_packages.result (case_along c.args.state.now c.args.command.now k _ e (ap plain c.in-RepoMove.is ∙ ap (λ (q : List (List ℕ)). of_repo (repo_move c.in-RepoMove.dry_run c.in-RepoMove.with_deps (plain_follow c.in-RepoMove.follow) c.in-RepoMove.source c.in-RepoMove.destination q)) (sym c.deref.ensures.value))) (c.move_packages.ensures.ok arrived v)

pub returns-in-RepoMove-clause-fault : goal.returns-in-RepoMove-clause-fault
unfolding repo_case
returns-in-RepoMove-clause-fault g c = λ k arrived e is v.
    refused_along _ _ _ _ _ arrived c.move_packages.result (case_along c.args.state.now c.args.command.now k _ e (ap plain c.in-RepoMove.is ∙ ap (λ (q : List (List ℕ)). of_repo (repo_move c.in-RepoMove.dry_run c.in-RepoMove.with_deps (plain_follow c.in-RepoMove.follow) c.in-RepoMove.source c.in-RepoMove.destination q)) (sym c.deref.ensures.value))) (c.move_packages.ensures.fault arrived v)

pub returns-in_default-clause-fault : goal.returns-in_default-clause-fault
returns-in_default-clause-fault g c = λ k arrived e is v. absurd (is_move c.args.command.now k e is c.in_default.not-RepoMove)
