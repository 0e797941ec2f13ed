use Rattle.step_model.proofs.FaultLemmas.{at_exit, fault_memory}
use Rattle.mirror_ops.proofs.settings.filter_of.Goals as goal

pub returns-in_err-tree_of-in-Some-clause-fault : goal.returns-in_err-tree_of-in-Some-clause-fault
returns-in_err-tree_of-in-Some-clause-fault g c =
    let fault = c.in_err-tree_of-in-Some.field-0.0 in
    at_exit c.from_residual-in_err-tree_of-in-Some.result fault _ c.from_residual-in_err-tree_of-in-Some.ensures.1 (fault_memory _ fault c.in_err-tree_of-in-Some.ensures.fits)
