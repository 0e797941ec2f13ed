use Rattle.std.proofs.Common.{◌∙◌, ℕ, List, ap, subst, sym, None, Some}
use Rattle.command_value.specs.Plain.{plain, plain_follow, of_snapshot, snapshot_filter, snapshot_list, snapshot_merge, snapshot_pull}
use Rattle.machine_state.specs.declared.refusal.Refusal.TheVariants.{NotBuilt}
use Rattle.step_model.specs.declared.reading.Reading.TheVariants as readings
use Rattle.step_model.proofs.RefusalLemmas.{refuses_first}
use Rattle.step_model.proofs.FaultLemmas.{keeps_same, none_told, wanted_along, refuses_along, told_along}
use Rattle.step_model.specs.Answers.{IsWanted}
use Rattle.step_model.specs.Case.{Case}
use Rattle.step_model.specs.Refuses.{Refuses}
use Rattle.snapshot_ops.specs.Cases.{snapshot_case}
use Rattle.snapshot_ops.proofs.CaseLemmas.{case_along, list_wanted, other_early}
use Rattle.snapshot_ops.proofs.family.needs.Goals as goal

pub returns-in-SnapshotCreate-clause-ok : goal.returns-in-SnapshotCreate-clause-ok
returns-in-SnapshotCreate-clause-ok g c = λ k e v. wanted_along None _ _ c.create_needs.result (case_along c.args.state.now c.args.command.now k _ e (ap plain c.in-SnapshotCreate.is)) (c.create_needs.ensures.ok v)

pub returns-in-SnapshotCreate-clause-fault : goal.returns-in-SnapshotCreate-clause-fault
returns-in-SnapshotCreate-clause-fault g c = λ k e v.
    none_told _ _ _ (λ large refusal. Refuses large (snapshot_case c.args.state.now k) (Some refusal)) c.create_needs.result
    (refuses_along None _ _ c.create_needs.result (case_along c.args.state.now c.args.command.now k _ e (ap plain c.in-SnapshotCreate.is)) (c.create_needs.ensures.fault v))

pub returns-in-SnapshotCreate-clause-kept : goal.returns-in-SnapshotCreate-clause-kept
returns-in-SnapshotCreate-clause-kept g c = keeps_same _ c.create_needs.result

pub returns-in-SnapshotShow-clause-ok : goal.returns-in-SnapshotShow-clause-ok
unfolding snapshot_case
returns-in-SnapshotShow-clause-ok g c = λ k e v. wanted_along None _ _ c.show_needs.result (case_along c.args.state.now c.args.command.now k _ e (ap plain c.in-SnapshotShow.is)) (c.show_needs.ensures.ok _ v)

pub returns-in-SnapshotShow-clause-fault : goal.returns-in-SnapshotShow-clause-fault
unfolding snapshot_case
returns-in-SnapshotShow-clause-fault g c = λ k e v.
    none_told _ _ _ (λ large refusal. Refuses large (snapshot_case c.args.state.now k) (Some refusal)) c.show_needs.result
    (refuses_along None _ _ c.show_needs.result (case_along c.args.state.now c.args.command.now k _ e (ap plain c.in-SnapshotShow.is)) (c.show_needs.ensures.fault _ v))

pub returns-in-SnapshotShow-clause-kept : goal.returns-in-SnapshotShow-clause-kept
returns-in-SnapshotShow-clause-kept g c = keeps_same _ c.show_needs.result

pub returns-in-SnapshotMerge-clause-ok : goal.returns-in-SnapshotMerge-clause-ok
unfolding snapshot_case
returns-in-SnapshotMerge-clause-ok g c = λ k e v. wanted_along None _ _ c.merge_needs.result (case_along c.args.state.now c.args.command.now k _ e (ap plain c.in-SnapshotMerge.is ∙ ap (λ (q : List (List ℕ)). of_snapshot (snapshot_merge c.in-SnapshotMerge.latest c.in-SnapshotMerge.no_remove c.in-SnapshotMerge.destination q)) (sym c.deref-in-SnapshotMerge.ensures.value))) (c.merge_needs.ensures.ok _ _ v)

pub returns-in-SnapshotMerge-clause-fault : goal.returns-in-SnapshotMerge-clause-fault
unfolding snapshot_case
returns-in-SnapshotMerge-clause-fault g c = λ k e v.
    none_told _ _ _ (λ large refusal. Refuses large (snapshot_case c.args.state.now k) (Some refusal)) c.merge_needs.result
    (refuses_along None _ _ c.merge_needs.result (case_along c.args.state.now c.args.command.now k _ e (ap plain c.in-SnapshotMerge.is ∙ ap (λ (q : List (List ℕ)). of_snapshot (snapshot_merge c.in-SnapshotMerge.latest c.in-SnapshotMerge.no_remove c.in-SnapshotMerge.destination q)) (sym c.deref-in-SnapshotMerge.ensures.value))) (c.merge_needs.ensures.fault _ _ v))

pub returns-in-SnapshotMerge-clause-kept : goal.returns-in-SnapshotMerge-clause-kept
returns-in-SnapshotMerge-clause-kept g c = keeps_same _ c.merge_needs.result

pub returns-in-SnapshotRename-clause-ok : goal.returns-in-SnapshotRename-clause-ok
unfolding snapshot_case
returns-in-SnapshotRename-clause-ok g c = λ k e v. wanted_along None _ _ c.rename_needs.result (case_along c.args.state.now c.args.command.now k _ e (ap plain c.in-SnapshotRename.is)) (c.rename_needs.ensures.ok v)

pub returns-in-SnapshotRename-clause-fault : goal.returns-in-SnapshotRename-clause-fault
unfolding snapshot_case
returns-in-SnapshotRename-clause-fault g c = λ k e v.
    none_told _ _ _ (λ large refusal. Refuses large (snapshot_case c.args.state.now k) (Some refusal)) c.rename_needs.result
    (refuses_along None _ _ c.rename_needs.result (case_along c.args.state.now c.args.command.now k _ e (ap plain c.in-SnapshotRename.is)) (c.rename_needs.ensures.fault v))

pub returns-in-SnapshotRename-clause-kept : goal.returns-in-SnapshotRename-clause-kept
returns-in-SnapshotRename-clause-kept g c = keeps_same _ c.rename_needs.result

pub returns-in-SnapshotDrop-clause-ok : goal.returns-in-SnapshotDrop-clause-ok
unfolding snapshot_case
returns-in-SnapshotDrop-clause-ok g c = λ k e v. wanted_along None _ _ c.drop_needs.result (case_along c.args.state.now c.args.command.now k _ e (ap plain c.in-SnapshotDrop.is)) (c.drop_needs.ensures.ok v)

pub returns-in-SnapshotDrop-clause-fault : goal.returns-in-SnapshotDrop-clause-fault
unfolding snapshot_case
returns-in-SnapshotDrop-clause-fault g c = λ k e v.
    none_told _ _ _ (λ large refusal. Refuses large (snapshot_case c.args.state.now k) (Some refusal)) c.drop_needs.result
    (refuses_along None _ _ c.drop_needs.result (case_along c.args.state.now c.args.command.now k _ e (ap plain c.in-SnapshotDrop.is)) (c.drop_needs.ensures.fault v))

pub returns-in-SnapshotDrop-clause-kept : goal.returns-in-SnapshotDrop-clause-kept
returns-in-SnapshotDrop-clause-kept g c = keeps_same _ c.drop_needs.result

pub returns-in-SnapshotFilter-clause-ok : goal.returns-in-SnapshotFilter-clause-ok
unfolding snapshot_case
returns-in-SnapshotFilter-clause-ok g c = λ k e v. wanted_along None _ _ c.filter_needs.result (case_along c.args.state.now c.args.command.now k _ e (ap plain c.in-SnapshotFilter.is ∙ ap (λ (q : List (List ℕ)). of_snapshot (snapshot_filter c.in-SnapshotFilter.with_deps (plain_follow c.in-SnapshotFilter.follow) c.in-SnapshotFilter.source c.in-SnapshotFilter.destination q)) (sym c.deref.ensures.value))) (c.filter_needs.ensures.ok c.in-SnapshotFilter.with_deps v)

pub returns-in-SnapshotFilter-clause-fault : goal.returns-in-SnapshotFilter-clause-fault
unfolding snapshot_case
returns-in-SnapshotFilter-clause-fault g c = λ k e v. told_along _ _ _ _ _ c.filter_needs.result (case_along c.args.state.now c.args.command.now k _ e (ap plain c.in-SnapshotFilter.is ∙ ap (λ (q : List (List ℕ)). of_snapshot (snapshot_filter c.in-SnapshotFilter.with_deps (plain_follow c.in-SnapshotFilter.follow) c.in-SnapshotFilter.source c.in-SnapshotFilter.destination q)) (sym c.deref.ensures.value))) (c.filter_needs.ensures.fault c.in-SnapshotFilter.with_deps v)

pub returns-in-SnapshotPull-clause-ok : goal.returns-in-SnapshotPull-clause-ok
unfolding snapshot_case
returns-in-SnapshotPull-clause-ok g c = λ k e v. wanted_along None _ _ c.pull_needs.result (case_along c.args.state.now c.args.command.now k _ e (ap plain c.in-SnapshotPull.is ∙ ap (λ (q : List (List ℕ)). of_snapshot (snapshot_pull c.in-SnapshotPull.all_matches c.in-SnapshotPull.dry_run c.in-SnapshotPull.no_deps c.in-SnapshotPull.no_remove (plain_follow c.in-SnapshotPull.follow) c.in-SnapshotPull.name c.in-SnapshotPull.source c.in-SnapshotPull.destination q)) (sym c.deref-in-SnapshotPull.ensures.value))) (c.pull_needs.ensures.ok _ _ v)

pub returns-in-SnapshotPull-clause-fault : goal.returns-in-SnapshotPull-clause-fault
unfolding snapshot_case
returns-in-SnapshotPull-clause-fault g c = λ k e v. told_along _ _ _ _ _ c.pull_needs.result (case_along c.args.state.now c.args.command.now k _ e (ap plain c.in-SnapshotPull.is ∙ ap (λ (q : List (List ℕ)). of_snapshot (snapshot_pull c.in-SnapshotPull.all_matches c.in-SnapshotPull.dry_run c.in-SnapshotPull.no_deps c.in-SnapshotPull.no_remove (plain_follow c.in-SnapshotPull.follow) c.in-SnapshotPull.name c.in-SnapshotPull.source c.in-SnapshotPull.destination q)) (sym c.deref-in-SnapshotPull.ensures.value))) (c.pull_needs.ensures.fault _ _ v)

pub returns-in-SnapshotSearch-clause-ok : goal.returns-in-SnapshotSearch-clause-ok
unfolding snapshot_case
returns-in-SnapshotSearch-clause-ok g c = λ k e v. wanted_along None _ _ c.search_needs.result (case_along c.args.state.now c.args.command.now k _ e (ap plain c.in-SnapshotSearch.is)) (c.search_needs.ensures.ok c.in-SnapshotSearch.with_deps v)

pub returns-in-SnapshotSearch-clause-fault : goal.returns-in-SnapshotSearch-clause-fault
unfolding snapshot_case
returns-in-SnapshotSearch-clause-fault g c = λ k e v. told_along _ _ _ _ _ c.search_needs.result (case_along c.args.state.now c.args.command.now k _ e (ap plain c.in-SnapshotSearch.is)) (c.search_needs.ensures.fault c.in-SnapshotSearch.with_deps v)

pub returns-in-SnapshotList-clause-ok : goal.returns-in-SnapshotList-clause-ok
returns-in-SnapshotList-clause-ok g c = λ k e v. subst (λ (q : Case). IsWanted None q readings.Nothing) (sym (case_along c.args.state.now c.args.command.now k snapshot_list e (ap plain c.in-SnapshotList.is))) (list_wanted c.args.state.now)

pub returns-in_default-clause-fault : goal.returns-in_default-clause-fault
returns-in_default-clause-fault g c = λ k e v.
    let d = c.in_default in
    (None, tt, refuses_first None _ NotBuilt (other_early c.args.command.now d.not-SnapshotCreate d.not-SnapshotList d.not-SnapshotShow d.not-SnapshotFilter d.not-SnapshotMerge d.not-SnapshotPull d.not-SnapshotSearch d.not-SnapshotRename d.not-SnapshotDrop c.args.state.now k e))
