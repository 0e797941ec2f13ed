use Rattle.std.proofs.Common.{◌≡◌, ℕ, List, None, subst}
use Rattle.step_model.specs.Names.{bad_name}
use Rattle.step_model.proofs.FaultLemmas.{at_exit, first_decides, second_decides}
use Rattle.snapshot_ops.specs.Cases.{taken}
use Rattle.mirror_lists.proofs.MirrorLemmas.{fetched_along}
use Rattle.snapshot_ops.proofs.CaseLemmas.{taken_along}
use Rattle.snapshot_ops.proofs.early.fetched_early.Goals as goal

pub returns-in_err-free-clause-fault : goal.returns-in_err-free-clause-fault
returns-in_err-free-clause-fault c = λ v.
    let fault = c.in_err-free.field-0.0 in
    let text = c.args.text.now in
    let mirror = c.args.mirror.now in
    let state = c.args.state.now in
    at_exit c.from_residual-in_err-free.result fault _ c.from_residual-in_err-free.ensures.1
    (second_decides (bad_name text) _ fault c.in_ok-name.ensures.good
    (second_decides (bad_name mirror) _ fault c.in_ok-of.ensures.good
    (first_decides (taken state.snapshots text) _ fault (taken_along state.snapshots _ _ fault c.in_ok-name.ensures.same (c.in_err-free.ensures.fault v)))))

pub returns-in_err-fetched-clause-fault : goal.returns-in_err-fetched-clause-fault
returns-in_err-fetched-clause-fault c = λ v.
    let fault = c.in_err-fetched.field-0.0 in
    let text = c.args.text.now in
    let mirror = c.args.mirror.now in
    let state = c.args.state.now in
    let free = subst (λ (n : List ℕ). taken state.snapshots n ≡ None) c.in_ok-name.ensures.same (c.in_ok-free.ensures.good v) in
    at_exit c.from_residual-in_err-fetched.result fault _ c.from_residual-in_err-fetched.ensures.1
    (second_decides (bad_name text) _ fault c.in_ok-name.ensures.good
    (second_decides (bad_name mirror) _ fault c.in_ok-of.ensures.good
    (second_decides (taken state.snapshots text) _ fault free (fetched_along state _ _ fault c.in_ok-of.ensures.same (c.in_err-fetched.ensures.fault v)))))
