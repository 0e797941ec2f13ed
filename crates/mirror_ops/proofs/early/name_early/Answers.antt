use Rattle.step_model.specs.Names.{bad_name}
use Rattle.step_model.proofs.FaultLemmas.{at_exit, second_decides}
use Rattle.mirror_lists.specs.Mirrors.{unknown_mirror}
use Rattle.mirror_lists.proofs.MirrorLemmas.{mirror_along}
use Rattle.mirror_ops.proofs.early.name_early.Goals as goal

pub returns-in_err-mirror_there-clause-fault : goal.returns-in_err-mirror_there-clause-fault
returns-in_err-mirror_there-clause-fault c = λ v.
    let fault = c.in_err-mirror_there.field-0.0 in
    let name = c.args.text.now in
    let mirrors = c.args.state.now.mirrors in
    at_exit c.from_residual-in_err-mirror_there.result fault _ c.from_residual-in_err-mirror_there.ensures.1
    (second_decides (bad_name name) (unknown_mirror mirrors name) fault c.in_ok-name.ensures.good (mirror_along mirrors _ _ fault c.in_ok-name.ensures.same (c.in_err-mirror_there.ensures.fault v)))
