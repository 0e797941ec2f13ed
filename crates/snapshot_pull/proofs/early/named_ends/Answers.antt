use Rattle.std.proofs.Common.{◌≡◌, ℕ, List, None, subst}
use Rattle.step_model.specs.Names.{bad_name}
use Rattle.step_model.proofs.FaultLemmas.{at_exit, first_decides, second_decides}
use Rattle.snapshot_pull.specs.Snapshots.{taken, unknown}
use Rattle.snapshot_pull.proofs.CaseLemmas.{taken_along, unknown_along}
use Rattle.snapshot_pull.proofs.early.named_ends.Goals as goal

pub returns-in_err-free-clause-fault : goal.returns-in_err-free-clause-fault
returns-in_err-free-clause-fault c = λ v.
    let fault = c.in_err-free.field-0.0 in
    let snapshots = c.args.state.now.snapshots in
    at_exit c.from_residual-in_err-free.result fault _ c.from_residual-in_err-free.ensures.1
    (second_decides (bad_name c.args.name.now) _ fault c.in_ok-under.ensures.good
    (second_decides (bad_name c.args.source.now) _ fault c.in_ok-from.ensures.good
    (second_decides (bad_name c.args.destination.now) _ fault c.in_ok-to.ensures.good
    (first_decides (taken snapshots c.args.destination.now) _ fault (taken_along snapshots _ _ fault c.in_ok-to.ensures.same (c.in_err-free.ensures.fault v))))))

pub returns-in_err-base-clause-fault : goal.returns-in_err-base-clause-fault
returns-in_err-base-clause-fault c = λ v.
    let fault = c.in_err-base.field-0.0 in
    let snapshots = c.args.state.now.snapshots in
    let free = subst (λ (n : List ℕ). taken snapshots n ≡ None) c.in_ok-to.ensures.same (c.in_ok-free.ensures.good v) in
    at_exit c.from_residual-in_err-base.result fault _ c.from_residual-in_err-base.ensures.1
    (second_decides (bad_name c.args.name.now) _ fault c.in_ok-under.ensures.good
    (second_decides (bad_name c.args.source.now) _ fault c.in_ok-from.ensures.good
    (second_decides (bad_name c.args.destination.now) _ fault c.in_ok-to.ensures.good
    (second_decides (taken snapshots c.args.destination.now) _ fault free
    (first_decides (unknown snapshots c.args.name.now) _ fault (unknown_along snapshots _ _ fault c.in_ok-under.ensures.same (c.in_err-base.ensures.fault v)))))))

pub returns-in_err-more-clause-fault : goal.returns-in_err-more-clause-fault
returns-in_err-more-clause-fault c = λ v.
    let fault = c.in_err-more.field-0.0 in
    let snapshots = c.args.state.now.snapshots in
    let free = subst (λ (n : List ℕ). taken snapshots n ≡ None) c.in_ok-to.ensures.same (c.in_ok-free.ensures.good v) in
    let base = subst (λ (n : List ℕ). unknown snapshots n ≡ None) c.in_ok-under.ensures.same (c.in_ok-base.ensures.good v) in
    at_exit c.from_residual-in_err-more.result fault _ c.from_residual-in_err-more.ensures.1
    (second_decides (bad_name c.args.name.now) _ fault c.in_ok-under.ensures.good
    (second_decides (bad_name c.args.source.now) _ fault c.in_ok-from.ensures.good
    (second_decides (bad_name c.args.destination.now) _ fault c.in_ok-to.ensures.good
    (second_decides (taken snapshots c.args.destination.now) _ fault free
    (second_decides (unknown snapshots c.args.name.now) _ fault base (unknown_along snapshots _ _ fault c.in_ok-from.ensures.same (c.in_err-more.ensures.fault v)))))))
