use Rattle.std.proofs.Common.{ap, arith, length}
use Rattle.std.proofs.lemmas.Result.{IfOk-weaker}
use Rattle.machine_state.specs.Values.{StateView}
use Rattle.step_model.proofs.FaultLemmas.{err_map, fault_memory}
use Rattle.mirror_ops.proofs.NewLemmas.{created_fits, created_full, created_new}
use Rattle.mirror_ops.proofs.creation.created.Goals as goal

pub returns-then-len-number-clause-fault : goal.returns-then-len-number-clause-fault
returns-then-len-number-clause-fault c =
    let count = ap (λ (s : StateView). length s.mirrors) c.state.view_is in
    created_full c.args.state.now c.args.mirror (omega (arith, c.if-len-number.true, c.len.ensures, c.number.ensures, count, c.state.inside.mirrors.ok.0))

pub returns-clause-comes : goal.returns-clause-comes
returns-clause-comes c = λ v.
    let count = ap (λ (s : StateView). length s.mirrors) c.state.view_is in
    IfOk-weaker c.put_mirror.result _ _
    (λ change e. created_fits c.args.state.now c.args.mirror change (omega (arith, c.if-len-number.false, c.len.ensures, c.number.ensures, count, c.state.inside.mirrors.ok.0)) e)
    (c.put_mirror.ensures.same v)

pub returns-clause-fault : goal.returns-clause-fault
returns-clause-fault c = err_map c.put_mirror.result _ _ (λ fault h. fault_memory _ fault h) c.put_mirror.ensures.fits

pub returns-clause-new : goal.returns-clause-new
returns-clause-new c = λ free v. IfOk-weaker c.put_mirror.result _ _ (λ change e. created_new c.args.state.now c.args.mirror change e free) (c.put_mirror.ensures.same v)
