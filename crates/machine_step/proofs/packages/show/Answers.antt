use Rattle.reply_text.specs.Replies.{package_show}
use Rattle.step_model.proofs.FaultLemmas.{at_exit, keeps_exit, told_fault}
use Rattle.machine_step.proofs.AskingLemmas.{asking_comes, asking_refused}
use Rattle.machine_step.proofs.packages.show.Goals as goal

pub returns-in_err-found-clause-fault : goal.returns-in_err-found-clause-fault
returns-in_err-found-clause-fault g c = λ arrived.
    let fault = c.in_err-found.field-0.0 in
    at_exit c.from_residual.result fault _ c.from_residual.ensures.1 (told_fault _ _ _ _ _ fault (λ large refusal h. asking_refused large c.args.state.now c.args.query.now package_show arrived refusal h) c.in_err-found.ensures.fault)

pub returns-in_err-found-clause-kept : goal.returns-in_err-found-clause-kept
returns-in_err-found-clause-kept g c = keeps_exit _ _ c.from_residual.result c.in_err-found.field-0.0 c.from_residual.ensures.1 c.in_err-found.ensures.kept

pub returns-clause-ok : goal.returns-clause-ok
returns-clause-ok g c = λ arrived. asking_comes c.args.state.now c.args.query.now package_show arrived c.in_ok-reply.reply c.in_ok-found.found c.in_ok-found.ensures.good c.in_ok-reply.ensures c.in_ok-found.ensures.found
