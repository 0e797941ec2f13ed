use Rattle.std.proofs.Common.{◌≡◌, ℕ, List, None, subst}
use Rattle.step_model.specs.Names.{bad_name}
use Rattle.step_model.proofs.FaultLemmas.{at_exit, first_decides, second_decides}
use Rattle.mirror_lists.specs.Mirrors.{unknown_mirror}
use Rattle.mirror_lists.proofs.MirrorLemmas.{mirror_along}
use Rattle.mirror_ops.specs.Cases.{taken}
use Rattle.mirror_ops.proofs.CaseLemmas.{taken_along}
use Rattle.mirror_ops.proofs.early.rename_early.Goals as goal

pub returns-in_err-free-clause-fault : goal.returns-in_err-free-clause-fault
returns-in_err-free-clause-fault c = λ v.
    let fault = c.in_err-free.field-0.0 in
    let from = c.args.from.now in
    let to = c.args.to.now in
    let mirrors = c.args.state.now.mirrors in
    at_exit c.from_residual-in_err-free.result fault _ c.from_residual-in_err-free.ensures.1
    (second_decides (bad_name from) _ fault c.in_ok-before.ensures.good
    (second_decides (bad_name to) _ fault c.in_ok-after.ensures.good
    (first_decides (taken mirrors to) (unknown_mirror mirrors from) fault (taken_along mirrors _ _ fault c.in_ok-after.ensures.same (c.in_err-free.ensures.fault v)))))

pub returns-in_err-mirror_there-clause-fault : goal.returns-in_err-mirror_there-clause-fault
returns-in_err-mirror_there-clause-fault c = λ v.
    let fault = c.in_err-mirror_there.field-0.0 in
    let from = c.args.from.now in
    let to = c.args.to.now in
    let mirrors = c.args.state.now.mirrors in
    let free = subst (λ (n : List ℕ). taken mirrors n ≡ None) c.in_ok-after.ensures.same (c.in_ok-free.ensures.good v) in
    at_exit c.from_residual-in_err-mirror_there.result fault _ c.from_residual-in_err-mirror_there.ensures.1
    (second_decides (bad_name from) _ fault c.in_ok-before.ensures.good
    (second_decides (bad_name to) _ fault c.in_ok-after.ensures.good
    (second_decides (taken mirrors to) (unknown_mirror mirrors from) fault free (mirror_along mirrors _ _ fault c.in_ok-before.ensures.same (c.in_err-mirror_there.ensures.fault v)))))
