use Rattle.std.proofs.Common.{◌∙◌, ap}
use Rattle.std.proofs.lemmas.Result.{IfOk-weaker}
use Rattle.step_model.proofs.FaultLemmas.{err_map, fault_map}
use Rattle.snapshot_ops.proofs.NewLemmas.{created_so}
use Rattle.snapshot_ops.specs.Replies as own
use Rattle.snapshot_ops.proofs.creation.created.Goals as goal

pub returns-clause-comes : goal.returns-clause-comes
returns-clause-comes c = λ v.
    IfOk-weaker c.made.result _ _
    (λ change h. created_so c.args.state.now c.args.name c.args.list c.in_ok-reply.reply (c.in_ok-reply.ensures ∙ ap (own.snapshot_created c.args.name) c.len.ensures) ∙ h)
    (c.made.ensures.comes v)

pub returns-clause-fault : goal.returns-clause-fault
returns-clause-fault c =
    err_map c.made.result _ _
    (λ fault h. fault_map _ _ fault (λ refusal e. created_so c.args.state.now c.args.name c.args.list c.in_ok-reply.reply (c.in_ok-reply.ensures ∙ ap (own.snapshot_created c.args.name) c.len.ensures) ∙ e) h)
    c.made.ensures.fault
