use Rattle.step_model.proofs.FaultLemmas.{at_exit, keeps_exit, told_fault}
use Rattle.machine_step.proofs.AskingLemmas.{asking_refuses, asking_wanted}
use Rattle.machine_step.proofs.packages.asking_needs.Goals as goal

pub returns-in_err-prepared-clause-fault : goal.returns-in_err-prepared-clause-fault
returns-in_err-prepared-clause-fault g c = λ state say.
    let fault = c.in_err-prepared.field-0.0 in
    at_exit c.from_residual.result fault _ c.from_residual.ensures.1 (told_fault _ _ _ _ _ fault (λ large refusal h. asking_refuses large state c.args.query.now say refusal h) c.in_err-prepared.ensures.fault)

pub returns-in_err-prepared-clause-kept : goal.returns-in_err-prepared-clause-kept
returns-in_err-prepared-clause-kept g c = keeps_exit _ _ c.from_residual.result c.in_err-prepared.field-0.0 c.from_residual.ensures.1 c.in_err-prepared.ensures.kept

pub returns-clause-ok : goal.returns-clause-ok
returns-clause-ok g c = λ state say. asking_wanted state c.args.query.now say c.in_ok-prepared.ensures.good
