use Rattle.std.proofs.Common.{ap, None}
use Rattle.command_value.specs.Plain.{plain}
use Rattle.step_model.proofs.FaultLemmas.{ok_along, fault_along}
use Rattle.snapshot_ops.specs.Cases.{snapshot_case}
use Rattle.snapshot_ops.proofs.CaseLemmas.{case_along, is_show}
use Rattle.snapshot_ops.proofs.shown.show.Goals as goal

pub returns-in-SnapshotShow-clause-ok : goal.returns-in-SnapshotShow-clause-ok
unfolding snapshot_case
returns-in-SnapshotShow-clause-ok g c = λ packages name e arrived v.
    ok_along None c.args.state.now _ _ arrived c.show_named.result (case_along c.args.state.now c.args.command.now _ _ e (ap plain c.in-SnapshotShow.is)) (c.show_named.ensures.ok arrived v)

pub returns-in-SnapshotShow-clause-fault : goal.returns-in-SnapshotShow-clause-fault
unfolding snapshot_case
returns-in-SnapshotShow-clause-fault g c = λ packages name e arrived v.
    fault_along None _ _ arrived c.show_named.result (case_along c.args.state.now c.args.command.now _ _ e (ap plain c.in-SnapshotShow.is)) (c.show_named.ensures.fault arrived v)

pub returns-in_default-clause-fault : goal.returns-in_default-clause-fault
returns-in_default-clause-fault g c = λ packages name e arrived v. absurd (is_show c.args.command.now packages name e c.in_default.not-SnapshotShow)
