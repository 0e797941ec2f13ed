use Rattle.std.proofs.Common.{◌∙◌, ℕ, List, ap, sym, None}
use Rattle.command_value.specs.Plain.{plain, of_snapshot, snapshot_merge}
use Rattle.step_model.proofs.FaultLemmas.{ok_along, fault_along}
use Rattle.snapshot_ops.specs.Cases.{snapshot_case}
use Rattle.snapshot_ops.proofs.CaseLemmas.{case_along, is_merge}
use Rattle.snapshot_ops.proofs.merging.merge.Goals as goal

pub returns-in-SnapshotMerge-clause-ok : goal.returns-in-SnapshotMerge-clause-ok
unfolding snapshot_case
returns-in-SnapshotMerge-clause-ok g c = λ newest no_remove destination sources e arrived v.
    ok_along None c.args.state.now _ _ arrived c.merge_named.result (case_along c.args.state.now c.args.command.now _ _ e (ap plain c.in-SnapshotMerge.is ∙ ap (λ (q : List (List ℕ)). of_snapshot (snapshot_merge c.in-SnapshotMerge.latest c.in-SnapshotMerge.no_remove c.in-SnapshotMerge.destination q)) (sym c.deref.ensures.value))) (c.merge_named.ensures.ok arrived v)

pub returns-in-SnapshotMerge-clause-fault : goal.returns-in-SnapshotMerge-clause-fault
unfolding snapshot_case
returns-in-SnapshotMerge-clause-fault g c = λ newest no_remove destination sources e arrived v.
    fault_along None _ _ arrived c.merge_named.result (case_along c.args.state.now c.args.command.now _ _ e (ap plain c.in-SnapshotMerge.is ∙ ap (λ (q : List (List ℕ)). of_snapshot (snapshot_merge c.in-SnapshotMerge.latest c.in-SnapshotMerge.no_remove c.in-SnapshotMerge.destination q)) (sym c.deref.ensures.value))) (c.merge_named.ensures.fault arrived v)

pub returns-in_default-clause-fault : goal.returns-in_default-clause-fault
returns-in_default-clause-fault g c = λ newest no_remove destination sources e arrived v. absurd (is_merge c.args.command.now newest no_remove destination sources e c.in_default.not-SnapshotMerge)
