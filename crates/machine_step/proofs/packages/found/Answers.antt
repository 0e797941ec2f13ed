use Rattle.step_model.proofs.FaultLemmas.{keeps_exit}
use Rattle.machine_step.proofs.packages.found.Goals as goal

pub returns-in_err-asked-clause-kept : goal.returns-in_err-asked-clause-kept
returns-in_err-asked-clause-kept g c = keeps_exit _ _ c.from_residual.result c.in_err-asked.field-0.0 c.from_residual.ensures.1 c.in_err-asked.ensures.kept
