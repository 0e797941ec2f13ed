use Rattle.std.proofs.Common.{◌∙◌}
use Rattle.std.proofs.lemmas.Result.{IfOk-weaker}
use Rattle.step_model.proofs.FaultLemmas.{err_map, fault_map}
use Rattle.snapshot_pull.proofs.PullLemmas.{made_so}
use Rattle.snapshot_pull.proofs.onto.kept.Goals as goal

pub returns-clause-comes : goal.returns-clause-comes
returns-clause-comes c = λ base v came went.
    let change = c.args.change in
    IfOk-weaker c.made.result _ _
    (λ told h. made_so c.args.state.now c.args.destination base change.list change.added change.removed came went c.in_ok-reply.reply c.in_ok-reply.ensures ∙ h)
    (c.made.ensures.comes v)

pub returns-clause-fault : goal.returns-clause-fault
returns-clause-fault c = λ base came went.
    let change = c.args.change in
    err_map c.made.result _ _
    (λ fault h. fault_map _ _ fault (λ refusal e. made_so c.args.state.now c.args.destination base change.list change.added change.removed came went c.in_ok-reply.reply c.in_ok-reply.ensures ∙ e) h)
    c.made.ensures.fault
