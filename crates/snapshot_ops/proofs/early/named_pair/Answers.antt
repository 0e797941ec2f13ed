use Rattle.std.proofs.Common.{◌≡◌, ℕ, List, None, subst}
use Rattle.step_model.specs.Names.{bad_name}
use Rattle.step_model.proofs.FaultLemmas.{at_exit, first_decides, second_decides}
use Rattle.snapshot_ops.specs.Cases.{taken, unknown}
use Rattle.snapshot_ops.proofs.CaseLemmas.{taken_along, unknown_along}
use Rattle.snapshot_ops.proofs.early.named_pair.Goals as goal

pub returns-in_err-free-clause-fault : goal.returns-in_err-free-clause-fault
returns-in_err-free-clause-fault c = λ v.
    let fault = c.in_err-free.field-0.0 in
    let from = c.args.source.now in
    let to = c.args.destination.now in
    let snapshots = c.args.state.now.snapshots in
    at_exit c.from_residual-in_err-free.result fault _ c.from_residual-in_err-free.ensures.1
    (second_decides (bad_name from) _ fault c.in_ok-from.ensures.good
    (second_decides (bad_name to) _ fault c.in_ok-to.ensures.good
    (first_decides (taken snapshots to) (unknown snapshots from) fault (taken_along snapshots _ _ fault c.in_ok-to.ensures.same (c.in_err-free.ensures.fault v)))))

pub returns-in_err-snapshot-clause-fault : goal.returns-in_err-snapshot-clause-fault
returns-in_err-snapshot-clause-fault c = λ v.
    let fault = c.in_err-snapshot.field-0.0 in
    let from = c.args.source.now in
    let to = c.args.destination.now in
    let snapshots = c.args.state.now.snapshots in
    let free = subst (λ (n : List ℕ). taken snapshots n ≡ None) c.in_ok-to.ensures.same (c.in_ok-free.ensures.good v) in
    at_exit c.from_residual-in_err-snapshot.result fault _ c.from_residual-in_err-snapshot.ensures.1
    (second_decides (bad_name from) _ fault c.in_ok-from.ensures.good
    (second_decides (bad_name to) _ fault c.in_ok-to.ensures.good
    (second_decides (taken snapshots to) (unknown snapshots from) fault free (unknown_along snapshots _ _ fault c.in_ok-from.ensures.same (c.in_err-snapshot.ensures.fault v)))))
