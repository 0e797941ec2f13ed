use Rattle.std.proofs.Common.{None}
use Rattle.step_model.proofs.FaultLemmas.{at_exit, fault_first}
use Rattle.mirror_ops.proofs.NameLemmas.{renamed_comes, renamed_new}
use Rattle.mirror_ops.proofs.naming.rename_named.Goals as goal

pub returns-clause-ok : goal.returns-clause-ok
returns-clause-ok c = λ arrived v.
    let early = c.in_ok-before.ensures in
    renamed_comes c.args.state.now c.args.from.now c.args.to.now c.in_ok-before.before c.in_ok-before.after early.before early.after c.in_ok-renamed_state.field-0 (c.in_ok-renamed_state.ensures v) (early.good v) c.in_ok-reply.reply arrived c.in_ok-reply.ensures

pub returns-clause-new : goal.returns-clause-new
returns-clause-new c = λ v.
    let early = c.in_ok-before.ensures in
    renamed_new c.args.state.now c.args.from.now c.args.to.now c.in_ok-before.before c.in_ok-before.after early.before early.after c.in_ok-renamed_state.field-0 (c.in_ok-renamed_state.ensures v) (early.good v)

pub returns-in_err-before-clause-fault : goal.returns-in_err-before-clause-fault
returns-in_err-before-clause-fault c = λ arrived v.
    let fault = c.in_err-before.field-0.0 in
    at_exit c.from_residual.result fault _ c.from_residual.ensures.1 (fault_first None _ arrived fault (c.in_err-before.ensures.fault v))
