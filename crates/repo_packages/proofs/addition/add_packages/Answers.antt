use Rattle.std.proofs.Common.{ap, sym, ◌∙◌, List, ℕ, IsTrue, subst, None, inr}
use Rattle.std.specs.Option.{is_some}
use Rattle.std.proofs.lemmas.Result.{IfOk-weaker}
use Rattle.command_value.specs.Plain.{repo_add}
use Rattle.machine_state.specs.declared.arrived.Arrived.{Arrived}
use Rattle.machine_state.specs.declared.arrived.Arrived.TheVariants as arrivals
use Rattle.machine_state.specs.State.{repo_of}
use Rattle.step_model.specs.Case.{refuses}
use Rattle.step_model.specs.Refuses.{reading}
use Rattle.step_model.proofs.FaultLemmas.{at_exit, err_map, fault_first, fault_memory}
use Rattle.package_intake.specs.Fits.{FitsIn}
use Rattle.repo_packages.specs.PackageCases.{addition_case, taken_in, MayArrive}
use Rattle.repo_packages.proofs.CaseLemmas.{added_comes, there_is, arrived_for}
use Rattle.repo_packages.proofs.PackageLaws.{list_fits}
use Rattle.repo_packages.proofs.addition.add_packages.Goals as goal

pub returns-in_err-name-clause-fault : goal.returns-in_err-name-clause-fault
returns-in_err-name-clause-fault c = λ inbox v m.
    let fault = c.in_err-name.field-0.0 in
    at_exit c.from_residual.result fault _ c.from_residual.ensures.1 (fault_first None _ c.args.arrived.now fault (c.in_err-name.ensures.fault v))

pub returns-in-Nothing-clause-fault : goal.returns-in-Nothing-clause-fault
returns-in-Nothing-clause-fault c = λ inbox v m.
    inr (added_comes c.args.state.now c.args.name.now c.args.folder.now c.args.arrived.now _ (c.in_ok-name.ensures.good v) (ap (taken_in c.args.state.now c.args.name.now) c.in-Nothing.is))

pub returns-in-Refused-clause-fault : goal.returns-in-Refused-clause-fault
returns-in-Refused-clause-fault c = λ inbox v m.
    inr (added_comes c.args.state.now c.args.name.now c.args.folder.now c.args.arrived.now _ (c.in_ok-name.ensures.good v)
    (ap (taken_in c.args.state.now c.args.name.now) c.in-Refused.is ∙ ap refuses (sym c.in_ok-copy-in-Refused.ensures)))

pub returns-clause-ok : goal.returns-clause-ok
returns-clause-ok c = λ inbox v m.
    let state = c.args.state.now in
    let name = c.args.name.now in
    let good = c.in_ok-name.ensures.good v in
    let arrives = arrived_for inbox state name c.args.folder.now (arrivals.List c.in-List.list c.in-List.date) good (subst (λ (a : Arrived). MayArrive inbox state (reading (addition_case state name c.args.folder.now)) a) c.in-List.is m) in
    let fits = list_fits c.arrivals_fit.ensures.fits inbox state name c.args.folder.now c.in-List.list c.in-List.date v arrives in
    let same = c.in_ok-name.ensures.name in
    IfOk-weaker c.take_in.result _ _
    (λ change e. added_comes state name c.args.folder.now c.args.arrived.now _ good
    (ap (taken_in state name) c.in-List.is ∙ ap (λ (n : List ℕ). taken_in state n (arrivals.List c.in-List.list c.in-List.date)) (sym same) ∙ e))
    (c.take_in.ensures.taken c.in-List.date v
    (subst (λ (n : List ℕ). FitsIn state n c.in-List.list) (sym same) fits)
    (subst (λ (n : List ℕ). IsTrue (is_some (repo_of n state.repos))) (sym same) (there_is state name c.args.folder.now good)))

pub returns-clause-fault : goal.returns-clause-fault
returns-clause-fault c = λ inbox v m.
    let state = c.args.state.now in
    let name = c.args.name.now in
    let good = c.in_ok-name.ensures.good v in
    let arrives = arrived_for inbox state name c.args.folder.now (arrivals.List c.in-List.list c.in-List.date) good (subst (λ (a : Arrived). MayArrive inbox state (reading (addition_case state name c.args.folder.now)) a) c.in-List.is m) in
    let fits = list_fits c.arrivals_fit.ensures.fits inbox state name c.args.folder.now c.in-List.list c.in-List.date v arrives in
    let same = c.in_ok-name.ensures.name in
    err_map c.take_in.result _ _ (λ fault h. fault_memory _ fault h)
    (c.take_in.ensures.fits v
    (subst (λ (n : List ℕ). FitsIn state n c.in-List.list) (sym same) fits)
    (subst (λ (n : List ℕ). IsTrue (is_some (repo_of n state.repos))) (sym same) (there_is state name c.args.folder.now good)))

pub returns-clause-new : goal.returns-clause-new
returns-clause-new c = λ inbox v m.
    let state = c.args.state.now in
    let name = c.args.name.now in
    let same = c.in_ok-name.ensures.name in
    c.take_in.ensures.new v (subst (λ (n : List ℕ). IsTrue (is_some (repo_of n state.repos))) (sym same) (there_is state name c.args.folder.now (c.in_ok-name.ensures.good v)))
