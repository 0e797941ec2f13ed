use Rattle.std.proofs.Common.{◌∙◌, ℕ, List, ap, sym, None}
use Rattle.command_value.specs.Plain.{plain, plain_follow, of_snapshot, snapshot_filter}
use Rattle.step_model.proofs.FaultLemmas.{ok_along, refused_along}
use Rattle.snapshot_ops.specs.Cases.{snapshot_case}
use Rattle.snapshot_ops.proofs.CaseLemmas.{case_along, is_filter}
use Rattle.snapshot_ops.proofs.filtering.filter.Goals as goal

pub returns-in-SnapshotFilter-clause-ok : goal.returns-in-SnapshotFilter-clause-ok
unfolding snapshot_case
returns-in-SnapshotFilter-clause-ok g c = λ deps follow source destination queries e arrived v.
    ok_along None c.args.state.now _ _ arrived c.filter_chosen.result (case_along c.args.state.now c.args.command.now _ _ e (ap plain c.in-SnapshotFilter.is ∙ ap (λ (q : List (List ℕ)). of_snapshot (snapshot_filter c.in-SnapshotFilter.with_deps (plain_follow c.in-SnapshotFilter.follow) c.in-SnapshotFilter.source c.in-SnapshotFilter.destination q)) (sym c.deref.ensures.value))) (c.filter_chosen.ensures.ok arrived v)

pub returns-in-SnapshotFilter-clause-fault : goal.returns-in-SnapshotFilter-clause-fault
unfolding snapshot_case
returns-in-SnapshotFilter-clause-fault g c = λ deps follow source destination queries e arrived v.
    refused_along _ _ _ _ _ arrived c.filter_chosen.result (case_along c.args.state.now c.args.command.now _ _ e (ap plain c.in-SnapshotFilter.is ∙ ap (λ (q : List (List ℕ)). of_snapshot (snapshot_filter c.in-SnapshotFilter.with_deps (plain_follow c.in-SnapshotFilter.follow) c.in-SnapshotFilter.source c.in-SnapshotFilter.destination q)) (sym c.deref.ensures.value))) (c.filter_chosen.ensures.fault arrived v)

pub returns-in_default-clause-fault : goal.returns-in_default-clause-fault
returns-in_default-clause-fault g c = λ deps follow source destination queries e arrived v. absurd (is_filter c.args.command.now deps follow source destination queries e c.in_default.not-SnapshotFilter)
