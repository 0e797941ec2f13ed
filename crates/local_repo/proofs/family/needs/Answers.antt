use Rattle.std.proofs.Common.{◌∙◌, ℕ, List, ap, sym, None, Some, false, unwrap_or}
use Rattle.command_value.specs.Plain.{plain, plain_follow, of_repo, repo_copy, repo_import, repo_move, repo_remove}
use Rattle.step_model.specs.Refuses.{Refuses}
use Rattle.step_model.proofs.FaultLemmas.{keeps_same, none_told, wanted_along, refuses_along, told_along}
use Rattle.repo_packages.specs.PackageCases.{chosen_for, copy_case, copying, move_case, moving}
use Rattle.local_repo.specs.Cases.{repo_case}
use Rattle.local_repo.proofs.CaseLemmas.{case_along, is_named}
use Rattle.local_repo.proofs.family.needs.Goals as goal

pub returns-in-RepoAdd-clause-ok : goal.returns-in-RepoAdd-clause-ok
unfolding repo_case
returns-in-RepoAdd-clause-ok g c = λ k e v. wanted_along None _ _ c.addition_needs.result (case_along c.args.state.now c.args.command.now k _ e (ap plain c.in-RepoAdd.is)) (c.addition_needs.ensures.ok v)

pub returns-in-RepoAdd-clause-fault : goal.returns-in-RepoAdd-clause-fault
unfolding repo_case
returns-in-RepoAdd-clause-fault g c = λ k e v.
    none_told _ _ _ (λ large refusal. Refuses large (repo_case c.args.state.now k) (Some refusal)) c.addition_needs.result
    (refuses_along None _ _ c.addition_needs.result (case_along c.args.state.now c.args.command.now k _ e (ap plain c.in-RepoAdd.is)) (c.addition_needs.ensures.fault v))

pub returns-in-RepoAdd-clause-kept : goal.returns-in-RepoAdd-clause-kept
returns-in-RepoAdd-clause-kept g c = keeps_same _ c.addition_needs.result

pub returns-in-RepoRemove-clause-ok : goal.returns-in-RepoRemove-clause-ok
unfolding repo_case
returns-in-RepoRemove-clause-ok g c = λ k e v. wanted_along None _ _ c.removal_needs.result (case_along c.args.state.now c.args.command.now k _ e (ap plain c.in-RepoRemove.is ∙ ap (λ (q : List (List ℕ)). of_repo (repo_remove c.in-RepoRemove.dry_run c.in-RepoRemove.name q)) (sym c.deref.ensures.value))) (c.removal_needs.ensures.ok _ v)

pub returns-in-RepoRemove-clause-fault : goal.returns-in-RepoRemove-clause-fault
unfolding repo_case
returns-in-RepoRemove-clause-fault g c = λ k e v. told_along _ _ _ _ _ c.removal_needs.result (case_along c.args.state.now c.args.command.now k _ e (ap plain c.in-RepoRemove.is ∙ ap (λ (q : List (List ℕ)). of_repo (repo_remove c.in-RepoRemove.dry_run c.in-RepoRemove.name q)) (sym c.deref.ensures.value))) (c.removal_needs.ensures.fault _ v)

pub returns-in-RepoCopy-clause-ok : goal.returns-in-RepoCopy-clause-ok
unfolding repo_case copy_case
returns-in-RepoCopy-clause-ok g c = λ k e v. wanted_along None _ _ c.pair_needs.result (case_along c.args.state.now c.args.command.now k _ e (ap plain c.in-RepoCopy.is ∙ ap (λ (q : List (List ℕ)). of_repo (repo_copy c.in-RepoCopy.dry_run c.in-RepoCopy.with_deps (plain_follow c.in-RepoCopy.follow) c.in-RepoCopy.source c.in-RepoCopy.destination q)) (sym c.deref-in-RepoCopy.ensures.value))) (c.pair_needs.ensures.ok c.in-RepoCopy.with_deps (copying c.args.state.now (unwrap_or c.in-RepoCopy.dry_run false) c.in-RepoCopy.destination (chosen_for c.args.state.now c.in-RepoCopy.with_deps (plain_follow c.in-RepoCopy.follow) c.in-RepoCopy.source c.deref-in-RepoCopy.result.now)) v)

pub returns-in-RepoCopy-clause-fault : goal.returns-in-RepoCopy-clause-fault
unfolding repo_case copy_case
returns-in-RepoCopy-clause-fault g c = λ k e v. told_along _ _ _ _ _ c.pair_needs.result (case_along c.args.state.now c.args.command.now k _ e (ap plain c.in-RepoCopy.is ∙ ap (λ (q : List (List ℕ)). of_repo (repo_copy c.in-RepoCopy.dry_run c.in-RepoCopy.with_deps (plain_follow c.in-RepoCopy.follow) c.in-RepoCopy.source c.in-RepoCopy.destination q)) (sym c.deref-in-RepoCopy.ensures.value))) (c.pair_needs.ensures.fault c.in-RepoCopy.with_deps (copying c.args.state.now (unwrap_or c.in-RepoCopy.dry_run false) c.in-RepoCopy.destination (chosen_for c.args.state.now c.in-RepoCopy.with_deps (plain_follow c.in-RepoCopy.follow) c.in-RepoCopy.source c.deref-in-RepoCopy.result.now)) v)

pub returns-in-RepoMove-clause-ok : goal.returns-in-RepoMove-clause-ok
unfolding repo_case move_case
returns-in-RepoMove-clause-ok g c = λ k e v. wanted_along None _ _ c.pair_needs-in-RepoMove.result (case_along c.args.state.now c.args.command.now k _ e (ap plain c.in-RepoMove.is ∙ ap (λ (q : List (List ℕ)). of_repo (repo_move c.in-RepoMove.dry_run c.in-RepoMove.with_deps (plain_follow c.in-RepoMove.follow) c.in-RepoMove.source c.in-RepoMove.destination q)) (sym c.deref-in-RepoMove.ensures.value))) (c.pair_needs-in-RepoMove.ensures.ok c.in-RepoMove.with_deps (moving c.args.state.now (unwrap_or c.in-RepoMove.dry_run false) c.in-RepoMove.source c.in-RepoMove.destination (chosen_for c.args.state.now c.in-RepoMove.with_deps (plain_follow c.in-RepoMove.follow) c.in-RepoMove.source c.deref-in-RepoMove.result.now)) v)

pub returns-in-RepoMove-clause-fault : goal.returns-in-RepoMove-clause-fault
unfolding repo_case move_case
returns-in-RepoMove-clause-fault g c = λ k e v. told_along _ _ _ _ _ c.pair_needs-in-RepoMove.result (case_along c.args.state.now c.args.command.now k _ e (ap plain c.in-RepoMove.is ∙ ap (λ (q : List (List ℕ)). of_repo (repo_move c.in-RepoMove.dry_run c.in-RepoMove.with_deps (plain_follow c.in-RepoMove.follow) c.in-RepoMove.source c.in-RepoMove.destination q)) (sym c.deref-in-RepoMove.ensures.value))) (c.pair_needs-in-RepoMove.ensures.fault c.in-RepoMove.with_deps (moving c.args.state.now (unwrap_or c.in-RepoMove.dry_run false) c.in-RepoMove.source c.in-RepoMove.destination (chosen_for c.args.state.now c.in-RepoMove.with_deps (plain_follow c.in-RepoMove.follow) c.in-RepoMove.source c.deref-in-RepoMove.result.now)) v)

pub returns-in-RepoImport-clause-ok : goal.returns-in-RepoImport-clause-ok
unfolding repo_case
returns-in-RepoImport-clause-ok g c = λ k e v. wanted_along None _ _ c.import_needs.result (case_along c.args.state.now c.args.command.now k _ e (ap plain c.in-RepoImport.is ∙ ap (λ (q : List (List ℕ)). of_repo (repo_import c.in-RepoImport.dry_run c.in-RepoImport.with_deps (plain_follow c.in-RepoImport.follow) c.in-RepoImport.mirror c.in-RepoImport.repo q)) (sym c.deref-in-RepoImport.ensures.value))) (c.import_needs.ensures.ok c.in-RepoImport.dry_run c.in-RepoImport.with_deps v)

pub returns-in-RepoImport-clause-fault : goal.returns-in-RepoImport-clause-fault
unfolding repo_case
returns-in-RepoImport-clause-fault g c = λ k e v. told_along _ _ _ _ _ c.import_needs.result (case_along c.args.state.now c.args.command.now k _ e (ap plain c.in-RepoImport.is ∙ ap (λ (q : List (List ℕ)). of_repo (repo_import c.in-RepoImport.dry_run c.in-RepoImport.with_deps (plain_follow c.in-RepoImport.follow) c.in-RepoImport.mirror c.in-RepoImport.repo q)) (sym c.deref-in-RepoImport.ensures.value))) (c.import_needs.ensures.fault c.in-RepoImport.dry_run c.in-RepoImport.with_deps v)

pub returns-in_default-clause-ok : goal.returns-in_default-clause-ok
returns-in_default-clause-ok g c = λ k e v.
    let d = c.in_default in
    c.named_needs.ensures.ok k e (is_named c.args.state.now c.args.command.now k e d.not-RepoAdd d.not-RepoRemove d.not-RepoCopy d.not-RepoMove d.not-RepoImport) v

pub returns-in_default-clause-fault : goal.returns-in_default-clause-fault
returns-in_default-clause-fault g c = λ k e v.
    let d = c.in_default in
    none_told _ _ _ (λ large refusal. Refuses large (repo_case c.args.state.now k) (Some refusal)) c.named_needs.result
    (c.named_needs.ensures.fault k e (is_named c.args.state.now c.args.command.now k e d.not-RepoAdd d.not-RepoRemove d.not-RepoCopy d.not-RepoMove d.not-RepoImport) v)

pub returns-in_default-clause-kept : goal.returns-in_default-clause-kept
returns-in_default-clause-kept g c = keeps_same _ c.named_needs.result
