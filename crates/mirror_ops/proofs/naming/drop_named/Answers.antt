use Rattle.std.proofs.Common.{None}
use Rattle.step_model.proofs.FaultLemmas.{at_exit, fault_first}
use Rattle.mirror_ops.proofs.NameLemmas.{dropped_comes, dropped_new}
use Rattle.mirror_ops.proofs.naming.drop_named.Goals as goal

pub returns-clause-ok : goal.returns-clause-ok
returns-clause-ok c = λ arrived v.
    dropped_comes c.args.state.now c.args.name.now c.in_ok-name.name c.in_ok-name.ensures.name c.in_ok-state_without.field-0 (c.in_ok-state_without.ensures v) (c.in_ok-name.ensures.good v) c.in_ok-reply.reply arrived c.in_ok-reply.ensures

pub returns-clause-new : goal.returns-clause-new
returns-clause-new c = λ v. dropped_new c.args.state.now c.args.name.now c.in_ok-name.name c.in_ok-name.ensures.name c.in_ok-state_without.field-0 (c.in_ok-state_without.ensures v) (c.in_ok-name.ensures.good v)

pub returns-in_err-name-clause-fault : goal.returns-in_err-name-clause-fault
returns-in_err-name-clause-fault c = λ arrived v.
    let fault = c.in_err-name.field-0.0 in
    at_exit c.from_residual.result fault _ c.from_residual.ensures.1 (fault_first None _ arrived fault (c.in_err-name.ensures.fault v))
