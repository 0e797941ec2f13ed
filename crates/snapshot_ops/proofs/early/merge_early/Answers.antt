use Rattle.std.proofs.Common.{◌≡◌, ℕ, List, None, subst, ◌∙◌}
use Rattle.step_model.specs.Names.{bad_name}
use Rattle.step_model.specs.Answers.{IsFirst}
use Rattle.step_model.proofs.FaultLemmas.{at_exit, first_decides, second_decides}
use Rattle.snapshot_ops.specs.Cases.{bad_among, taken, unknown_among}
use Rattle.snapshot_ops.proofs.CaseLemmas.{all_none, taken_along}
use Rattle.snapshot_ops.proofs.early.merge_early.Goals as goal

pub returns-in_err-free-clause-fault : goal.returns-in_err-free-clause-fault
returns-in_err-free-clause-fault c = λ v.
    let fault = c.in_err-free.field-0.0 in
    let to = c.args.destination.now in
    let sources = c.args.sources.now in
    let snapshots = c.args.state.now.snapshots in
    at_exit c.from_residual-in_err-free.result fault _ c.from_residual-in_err-free.ensures.1
    (second_decides (bad_name to) _ fault c.in_ok-to.ensures.good
    (second_decides (bad_among sources) _ fault c.in_ok-from.ensures.good
    (first_decides (taken snapshots to) (unknown_among snapshots sources) fault (taken_along snapshots _ _ fault c.in_ok-to.ensures.same (c.in_err-free.ensures.fault v)))))

pub returns-in_err-all_there-clause-fault : goal.returns-in_err-all_there-clause-fault
returns-in_err-all_there-clause-fault c = λ v.
    let fault = c.in_err-all_there.field-0.0 in
    let to = c.args.destination.now in
    let sources = c.args.sources.now in
    let snapshots = c.args.state.now.snapshots in
    let free = subst (λ (n : List ℕ). taken snapshots n ≡ None) c.in_ok-to.ensures.same (c.in_ok-free.ensures.good v) in
    at_exit c.from_residual-in_err-all_there.result fault _ c.from_residual-in_err-all_there.ensures.1
    (second_decides (bad_name to) _ fault c.in_ok-to.ensures.good
    (second_decides (bad_among sources) _ fault c.in_ok-from.ensures.good
    (second_decides (taken snapshots to) (unknown_among snapshots sources) fault free
    (subst (λ (l : List (List ℕ)). IsFirst (unknown_among snapshots l) fault) (c.deref.ensures.value ∙ c.in_ok-from.ensures.same) (c.in_err-all_there.ensures.fault v)))))

pub returns-clause-good : goal.returns-clause-good
returns-clause-good c = λ v.
    let to = c.args.destination.now in
    let sources = c.args.sources.now in
    let snapshots = c.args.state.now.snapshots in
    let free = subst (λ (n : List ℕ). taken snapshots n ≡ None) c.in_ok-to.ensures.same (c.in_ok-free.ensures.good v) in
    let there = subst (λ (l : List (List ℕ)). unknown_among snapshots l ≡ None) (c.deref.ensures.value ∙ c.in_ok-from.ensures.same) (c.in_ok-all_there.ensures.good v) in
    all_none (bad_name to) (bad_among sources) (taken snapshots to) (unknown_among snapshots sources) c.in_ok-to.ensures.good c.in_ok-from.ensures.good free there
