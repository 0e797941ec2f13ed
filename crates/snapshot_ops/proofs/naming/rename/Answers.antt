use Rattle.std.proofs.Common.{ap, None}
use Rattle.command_value.specs.Plain.{plain}
use Rattle.step_model.proofs.FaultLemmas.{ok_along, fault_along}
use Rattle.snapshot_ops.specs.Cases.{snapshot_case}
use Rattle.snapshot_ops.proofs.CaseLemmas.{case_along, is_rename}
use Rattle.snapshot_ops.proofs.naming.rename.Goals as goal

pub returns-in-SnapshotRename-clause-ok : goal.returns-in-SnapshotRename-clause-ok
unfolding snapshot_case
returns-in-SnapshotRename-clause-ok g c = λ before after e arrived v.
    ok_along None c.args.state.now _ _ arrived c.rename_named.result (case_along c.args.state.now c.args.command.now _ _ e (ap plain c.in-SnapshotRename.is)) (c.rename_named.ensures.ok arrived v)

pub returns-in-SnapshotRename-clause-fault : goal.returns-in-SnapshotRename-clause-fault
unfolding snapshot_case
returns-in-SnapshotRename-clause-fault g c = λ before after e arrived v.
    fault_along None _ _ arrived c.rename_named.result (case_along c.args.state.now c.args.command.now _ _ e (ap plain c.in-SnapshotRename.is)) (c.rename_named.ensures.fault arrived v)

pub returns-in_default-clause-fault : goal.returns-in_default-clause-fault
returns-in_default-clause-fault g c = λ before after e arrived v. absurd (is_rename c.args.command.now before after e c.in_default.not-SnapshotRename)
