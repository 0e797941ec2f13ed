use Rattle.step_model.specs.Names.{bad_name}
use Rattle.step_model.proofs.FaultLemmas.{err_map, second_decides}
use Rattle.snapshot_ops.specs.Cases.{unknown}
use Rattle.snapshot_ops.proofs.CaseLemmas.{unknown_along}
use Rattle.snapshot_ops.proofs.early.named_snapshot.Goals as goal

pub returns-clause-fault : goal.returns-clause-fault
returns-clause-fault c = λ v.
    let snapshots = c.args.state.now.snapshots in
    err_map c.there.result _ _
    (λ fault h. second_decides (bad_name c.args.text.now) (unknown snapshots c.args.text.now) fault c.in_ok-name.ensures.good (unknown_along snapshots _ _ fault c.in_ok-name.ensures.same h))
    (c.there.ensures.fault v)
