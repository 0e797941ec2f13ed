use Rattle.std.proofs.Common.{◌∙◌, ap, sym}
use Rattle.machine_state.specs.Values.{MirrorView}
use Rattle.step_model.proofs.FaultLemmas.{at_exit, first_decides, second_decides}
use Rattle.mirror_ops.specs.Cases.{taken}
use Rattle.mirror_ops.proofs.CaseLemmas.{both_none, taken_along}
use Rattle.mirror_ops.proofs.early.create_early.Goals as goal

pub returns-in_err-mirror-clause-fault : goal.returns-in_err-mirror-clause-fault
returns-in_err-mirror-clause-fault c = λ v.
    let fault = c.in_err-mirror.field-0.0 in
    at_exit c.from_residual.result fault _ c.from_residual.ensures.1 (first_decides _ (taken c.args.state.now.mirrors c.args.name.now) fault c.in_err-mirror.ensures.fault)

pub returns-in_err-free-clause-fault : goal.returns-in_err-free-clause-fault
returns-in_err-free-clause-fault c = λ v.
    let fault = c.in_err-free.field-0.0 in
    let mirrors = c.args.state.now.mirrors in
    at_exit c.from_residual-in_err-free.result fault _ c.from_residual-in_err-free.ensures.1
    (second_decides _ (taken mirrors c.args.name.now) fault c.in_ok-mirror.ensures.good
    (taken_along mirrors _ _ fault (ap (λ (m : MirrorView). m.name) (c.mirror.view_is ∙ c.in_ok-mirror.ensures.same)) (c.in_err-free.ensures.fault v)))

pub returns-clause-good : goal.returns-clause-good
returns-clause-good c = λ v.
    let mirrors = c.args.state.now.mirrors in
    both_none _ (taken mirrors c.args.name.now) c.in_ok-mirror.ensures.good
    (ap (λ (m : MirrorView). taken mirrors m.name) (sym (c.mirror.view_is ∙ c.in_ok-mirror.ensures.same)) ∙ c.in_ok-free.ensures.good v)
