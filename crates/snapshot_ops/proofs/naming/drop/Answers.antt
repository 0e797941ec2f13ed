use Rattle.std.proofs.Common.{ap, None}
use Rattle.command_value.specs.Plain.{plain}
use Rattle.step_model.proofs.FaultLemmas.{ok_along, fault_along}
use Rattle.snapshot_ops.specs.Cases.{snapshot_case}
use Rattle.snapshot_ops.proofs.CaseLemmas.{case_along, is_drop}
use Rattle.snapshot_ops.proofs.naming.drop.Goals as goal

pub returns-in-SnapshotDrop-clause-ok : goal.returns-in-SnapshotDrop-clause-ok
unfolding snapshot_case
returns-in-SnapshotDrop-clause-ok g c = λ name e arrived v.
    ok_along None c.args.state.now _ _ arrived c.drop_named.result (case_along c.args.state.now c.args.command.now _ _ e (ap plain c.in-SnapshotDrop.is)) (c.drop_named.ensures.ok arrived v)

pub returns-in-SnapshotDrop-clause-fault : goal.returns-in-SnapshotDrop-clause-fault
unfolding snapshot_case
returns-in-SnapshotDrop-clause-fault g c = λ name e arrived v.
    fault_along None _ _ arrived c.drop_named.result (case_along c.args.state.now c.args.command.now _ _ e (ap plain c.in-SnapshotDrop.is)) (c.drop_named.ensures.fault arrived v)

pub returns-in_default-clause-fault : goal.returns-in_default-clause-fault
returns-in_default-clause-fault g c = λ name e arrived v. absurd (is_drop c.args.command.now name e c.in_default.not-SnapshotDrop)
