use Rattle.std.proofs.Common.{ap, None}
use Rattle.command_value.specs.Plain.{plain}
use Rattle.step_model.proofs.FaultLemmas.{ok_along, fault_along}
use Rattle.snapshot_ops.proofs.CaseLemmas.{case_along, is_create}
use Rattle.snapshot_ops.proofs.creation.create.Goals as goal

pub returns-in-SnapshotCreate-clause-ok : goal.returns-in-SnapshotCreate-clause-ok
returns-in-SnapshotCreate-clause-ok g c = λ name origin e arrived v.
    ok_along None c.args.state.now _ _ arrived c.create_from.result (case_along c.args.state.now c.args.command.now _ _ e (ap plain c.in-SnapshotCreate.is)) (c.create_from.ensures.ok arrived v)

pub returns-in-SnapshotCreate-clause-fault : goal.returns-in-SnapshotCreate-clause-fault
returns-in-SnapshotCreate-clause-fault g c = λ name origin e arrived v.
    fault_along None _ _ arrived c.create_from.result (case_along c.args.state.now c.args.command.now _ _ e (ap plain c.in-SnapshotCreate.is)) (c.create_from.ensures.fault arrived v)

pub returns-in_default-clause-fault : goal.returns-in_default-clause-fault
returns-in_default-clause-fault g c = λ name origin e arrived v. absurd (is_create c.args.command.now name origin e c.in_default.not-SnapshotCreate)
