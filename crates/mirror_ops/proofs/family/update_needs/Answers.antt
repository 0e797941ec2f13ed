use Rattle.std.proofs.Common.{ap, None}
use Rattle.step_model.specs.declared.reading.Reading.TheVariants as readings
use Rattle.step_model.proofs.FaultLemmas.{at_exit, fault_refuses}
use Rattle.mirror_ops.proofs.UpdateCases.{update_wanted}
use Rattle.mirror_ops.proofs.family.update_needs.Goals as goal

pub returns-in_err-name-clause-fault : goal.returns-in_err-name-clause-fault
returns-in_err-name-clause-fault c = λ v.
    let fault = c.in_err-name.field-0.0 in
    at_exit c.from_residual.result fault _ c.from_residual.ensures.1 (fault_refuses None _ fault (c.in_err-name.ensures.fault v))

pub returns-clause-ok : goal.returns-clause-ok
returns-clause-ok c = λ v. update_wanted c.args.state.now c.args.name.now _ (c.in_ok-name.ensures.good v) (ap readings.Mirror c.in_ok-name.ensures.name)
