use Rattle.std.proofs.Common.{None, ap, sym}
use Rattle.command_value.specs.Plain.{plain, plain_follow}
use Rattle.step_model.proofs.FaultLemmas.{ok_along, refused_along}
use Rattle.snapshot_pull.proofs.PullLemmas.{case_along, is_pull}
use Rattle.snapshot_pull.proofs.pulling.pull.Goals as goal

pub returns-in-SnapshotPull-clause-ok : goal.returns-in-SnapshotPull-clause-ok
returns-in-SnapshotPull-clause-ok g c = λ all dry no_deps no_remove follow name source destination queries e arrived v.
    ok_along None c.args.state.now _ _ arrived c.pull_named.result
    (case_along c.args.state.now c.args.command.now all dry no_deps no_remove follow name source destination queries c.in-SnapshotPull.all_matches c.in-SnapshotPull.dry_run c.in-SnapshotPull.no_deps c.in-SnapshotPull.no_remove (plain_follow c.in-SnapshotPull.follow) c.in-SnapshotPull.name c.in-SnapshotPull.source c.in-SnapshotPull.destination _ _ e
    (ap plain c.in-SnapshotPull.is) (sym c.deref.ensures.value) c.flags_for.ensures)
    (c.pull_named.ensures.ok arrived v)

pub returns-in-SnapshotPull-clause-fault : goal.returns-in-SnapshotPull-clause-fault
returns-in-SnapshotPull-clause-fault g c = λ all dry no_deps no_remove follow name source destination queries e arrived v.
    refused_along _ _ _ _ _ arrived c.pull_named.result
    (case_along c.args.state.now c.args.command.now all dry no_deps no_remove follow name source destination queries c.in-SnapshotPull.all_matches c.in-SnapshotPull.dry_run c.in-SnapshotPull.no_deps c.in-SnapshotPull.no_remove (plain_follow c.in-SnapshotPull.follow) c.in-SnapshotPull.name c.in-SnapshotPull.source c.in-SnapshotPull.destination _ _ e
    (ap plain c.in-SnapshotPull.is) (sym c.deref.ensures.value) c.flags_for.ensures)
    (c.pull_named.ensures.fault arrived v)

pub returns-in_default-clause-fault : goal.returns-in_default-clause-fault
returns-in_default-clause-fault g c = λ all dry no_deps no_remove follow name source destination queries e arrived v.
    absurd (is_pull c.args.command.now all dry no_deps no_remove follow name source destination queries e c.in_default.not-SnapshotPull)
