use Rattle.std.proofs.Common.{arith, ap, length, None}
use Rattle.std.proofs.lemmas.Result.{IfOk-weaker}
use Rattle.machine_state.specs.Values.{StateView}
use Rattle.step_model.proofs.FaultLemmas.{at_exit, err_map, fault_first, fault_memory}
use Rattle.local_repo.proofs.CaseLemmas.{created_comes, created_full_up, created_new}
use Rattle.local_repo.proofs.creation.create_with.Goals as goal

pub returns-in_err-name-clause-fault : goal.returns-in_err-name-clause-fault
returns-in_err-name-clause-fault c = λ arrived v.
    let fault = c.in_err-name.field-0.0 in
    at_exit c.from_residual.result fault _ c.from_residual.ensures.1 (fault_first None _ arrived fault (c.in_err-name.ensures.fault v))

pub returns-then-len-number-clause-fault : goal.returns-then-len-number-clause-fault
returns-then-len-number-clause-fault c = λ arrived v.
    let count = ap (λ (s : StateView). length s.repos) c.state.view_is in
    created_full_up c.args.state.now c.args.comment.now c.args.distribution.now c.args.component.now c.args.name.now (c.in_ok-name.ensures.good v) arrived (omega (arith, c.if-len-number.true, c.len.ensures, c.number.ensures, count, c.state.inside.repos.ok.0))

pub returns-clause-ok : goal.returns-clause-ok
returns-clause-ok c = λ arrived v.
    let count = ap (λ (s : StateView). length s.repos) c.state.view_is in
    IfOk-weaker c.make.result _ _
    (λ change e. created_comes c.args.state.now c.args.comment.now c.args.distribution.now c.args.component.now c.args.name.now (c.in_ok-name.ensures.good v) c.in_ok-name.name change arrived e c.in_ok-name.ensures.name
    (omega (arith, c.if-len-number.false, c.len.ensures, c.number.ensures, count, c.state.inside.repos.ok.0)))
    (c.make.ensures.same v)

pub returns-clause-fault : goal.returns-clause-fault
returns-clause-fault c = λ arrived v. err_map c.make.result _ _ (λ fault h. fault_memory _ fault h) (c.make.ensures.fits c.in_ok-name.ensures.settings)

pub returns-clause-new : goal.returns-clause-new
returns-clause-new c = λ v.
    IfOk-weaker c.make.result _ _
    (λ change e. created_new c.args.state.now c.args.comment.now c.args.distribution.now c.args.component.now c.args.name.now (c.in_ok-name.ensures.good v) c.in_ok-name.name change e c.in_ok-name.ensures.name)
    (c.make.ensures.same v)
