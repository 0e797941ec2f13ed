use Rattle.std.proofs.Common.{◌≡◌, ◌∙◌, ap, sym, subst, List, ℕ, None, inr}
use Rattle.std.proofs.lemmas.Result.{IfOk-weaker}
use Rattle.machine_state.specs.declared.arrived.Arrived.TheVariants as arrivals
use Rattle.machine_state.specs.State.{mirror_name, mirror_of}
use Rattle.machine_state.proofs.NamedLemmas.{named_has}
use Rattle.mirror_update.specs.Fits.{FitsIn}
use Rattle.step_model.specs.Case.{refuses}
use Rattle.step_model.proofs.FaultLemmas.{at_exit, err_map, fault_first, fault_memory}
use Rattle.mirror_ops.specs.Cases.{taken_in}
use Rattle.mirror_ops.specs.Updates.{fetched_of}
use Rattle.mirror_ops.proofs.UpdateCases.{arrived_fits, update_comes}
use Rattle.mirror_ops.proofs.updating.update_named.Goals as goal

pub returns-in_err-mirror-clause-fault : goal.returns-in_err-mirror-clause-fault
returns-in_err-mirror-clause-fault c = λ inbox v m.
    let fault = c.in_err-mirror.field-0.0 in
    at_exit c.from_residual.result fault _ c.from_residual.ensures.1 (fault_first None _ c.args.arrived.now fault (c.in_err-mirror.ensures.fault v))

pub returns-in-Nothing-clause-fault : goal.returns-in-Nothing-clause-fault
returns-in-Nothing-clause-fault c = λ inbox v m.
    inr (update_comes c.args.state.now c.args.name.now c.args.arrived.now _ (c.in_ok-mirror.ensures.good v) (ap (taken_in c.args.state.now c.args.name.now) c.in-Nothing.is))

pub returns-in_ok-copy-in-Refused-clause-fault : goal.returns-in_ok-copy-in-Refused-clause-fault
returns-in_ok-copy-in-Refused-clause-fault c = λ inbox v m.
    inr (update_comes c.args.state.now c.args.name.now c.args.arrived.now _ (c.in_ok-mirror.ensures.good v)
    (ap (taken_in c.args.state.now c.args.name.now) c.in-Refused.is ∙ ap refuses (sym c.in_ok-copy-in-Refused.ensures)))

pub returns-in-List-clause-ok : goal.returns-in-List-clause-ok
returns-in-List-clause-ok c = λ inbox v m.
    let state = c.args.state.now in
    let name = c.args.name.now in
    let mirror = c.in_ok-mirror.mirror.now in
    let good = c.in_ok-mirror.ensures.good v in
    let found = c.in_ok-mirror.ensures.found v in
    let same : mirror.name ≡ name = named_has mirror_name name state.mirrors mirror found in
    let fits = arrived_fits c.archives_fit.ensures.fits inbox state name c.args.arrived.now c.in-List.list c.in-List.date v good c.in-List.is m in
    IfOk-weaker c.take_in.result _ _
    (λ change e. update_comes state name c.args.arrived.now _ good
    (ap (taken_in state name) c.in-List.is ∙ ap (λ (n : List ℕ). taken_in state n (arrivals.List c.in-List.list c.in-List.date)) (sym same) ∙ e))
    (c.take_in.ensures.taken v
    (ap (λ (n : List ℕ). mirror_of n state.mirrors) same ∙ found)
    (subst (λ (n : List ℕ). FitsIn state n (fetched_of c.in-List.list c.in-List.date)) (sym same) fits))

pub returns-in-List-clause-fault : goal.returns-in-List-clause-fault
returns-in-List-clause-fault c = λ inbox v m.
    let state = c.args.state.now in
    let name = c.args.name.now in
    let mirror = c.in_ok-mirror.mirror.now in
    let good = c.in_ok-mirror.ensures.good v in
    let same : mirror.name ≡ name = named_has mirror_name name state.mirrors mirror (c.in_ok-mirror.ensures.found v) in
    let fits = arrived_fits c.archives_fit.ensures.fits inbox state name c.args.arrived.now c.in-List.list c.in-List.date v good c.in-List.is m in
    err_map c.take_in.result _ _ (λ fault h. fault_memory _ fault h)
    (c.take_in.ensures.fits (subst (λ (n : List ℕ). FitsIn state n (fetched_of c.in-List.list c.in-List.date)) (sym same) fits))

pub returns-in-List-clause-new : goal.returns-in-List-clause-new
returns-in-List-clause-new c = λ v.
    let state = c.args.state.now in
    let found = c.in_ok-mirror.ensures.found v in
    c.take_in.ensures.new v (ap (λ (n : List ℕ). mirror_of n state.mirrors) (named_has mirror_name c.args.name.now state.mirrors c.in_ok-mirror.mirror.now found) ∙ found)
