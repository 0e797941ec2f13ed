use Rattle.std.proofs.Common.{◌∙◌, ap, sym}
use Rattle.std.proofs.lemmas.Result.{IfOk-weaker}
use Rattle.step_model.specs.Answers.{came}
use Rattle.step_model.specs.Case.{changes}
use Rattle.step_model.proofs.FaultLemmas.{at_exit, err_map, fault_memory}
use Rattle.snapshot_pull.specs.Snapshots.{snapshot_from, with_snapshot}
use Rattle.snapshot_pull.proofs.NewLemmas.{made_new}
use Rattle.snapshot_pull.proofs.making.made.Goals as goal

pub returns-in_err-room-clause-fault : goal.returns-in_err-room-clause-fault
returns-in_err-room-clause-fault c =
    at_exit c.from_residual.result c.in_err-room.field-0.0 _ c.from_residual.ensures.1
    (c.in_err-room.ensures.fault (changes c.args.reply (with_snapshot c.args.state.now (snapshot_from c.args.name c.args.list))))

pub returns-clause-comes : goal.returns-clause-comes
returns-clause-comes c = λ v.
    IfOk-weaker c.put_snapshot.result _ _
    (λ change e. c.in_ok-room.ensures.good (changes c.args.reply (with_snapshot c.args.state.now (snapshot_from c.args.name c.args.list))) ∙ ap (came c.args.state.now) (sym e))
    (c.put_snapshot.ensures.same v)

pub returns-clause-fault : goal.returns-clause-fault
returns-clause-fault c = err_map c.put_snapshot.result _ _ (λ fault h. fault_memory _ fault h) c.put_snapshot.ensures.fits

pub returns-clause-new : goal.returns-clause-new
returns-clause-new c = λ free v. IfOk-weaker c.put_snapshot.result _ _ (λ change e. made_new c.args.state.now c.args.name c.args.list c.args.reply change e free) (c.put_snapshot.ensures.same v)
