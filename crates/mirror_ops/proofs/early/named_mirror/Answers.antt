use Rattle.step_model.specs.Names.{bad_name}
use Rattle.step_model.proofs.FaultLemmas.{err_map, second_decides}
use Rattle.mirror_lists.specs.Mirrors.{unknown_mirror}
use Rattle.mirror_lists.proofs.MirrorLemmas.{mirror_along}
use Rattle.mirror_ops.proofs.early.named_mirror.Goals as goal

pub returns-clause-fault : goal.returns-clause-fault
returns-clause-fault c = λ v.
    let mirrors = c.args.state.now.mirrors in
    err_map c.mirror_there.result _ _
    (λ fault h. second_decides (bad_name c.args.text.now) (unknown_mirror mirrors c.args.text.now) fault c.in_ok-name.ensures.good (mirror_along mirrors _ _ fault c.in_ok-name.ensures.same h))
    (c.mirror_there.ensures.fault v)
