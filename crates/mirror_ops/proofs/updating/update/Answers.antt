use Rattle.std.proofs.Common.{ap, None, subst}
use Rattle.command_value.specs.Plain.{plain}
use Rattle.step_model.specs.Case.{Case}
use Rattle.step_model.proofs.FaultLemmas.{ok_along, fault_along}
use Rattle.mirror_ops.specs.Cases.{ArrivesFor, mirror_case}
use Rattle.mirror_ops.proofs.CaseLemmas.{case_along, is_update}
use Rattle.mirror_ops.proofs.updating.update.Goals as goal

pub returns-in-MirrorUpdate-clause-ok : goal.returns-in-MirrorUpdate-clause-ok
unfolding mirror_case
returns-in-MirrorUpdate-clause-ok g c = λ k inbox e is v m.
    let state = c.args.state.now in
    let arrived = c.args.arrived.now in
    let same = case_along state c.args.command.now k _ e (ap plain c.in-MirrorUpdate.is) in
    ok_along None state _ _ arrived c.update_named.result same (c.update_named.ensures.ok inbox v (subst (λ (q : Case). ArrivesFor inbox state q arrived) same m))

pub returns-in-MirrorUpdate-clause-fault : goal.returns-in-MirrorUpdate-clause-fault
unfolding mirror_case
returns-in-MirrorUpdate-clause-fault g c = λ k inbox e is v m.
    let state = c.args.state.now in
    let arrived = c.args.arrived.now in
    let same = case_along state c.args.command.now k _ e (ap plain c.in-MirrorUpdate.is) in
    fault_along None _ _ arrived c.update_named.result same (c.update_named.ensures.fault inbox v (subst (λ (q : Case). ArrivesFor inbox state q arrived) same m))

pub returns-in_default-clause-fault : goal.returns-in_default-clause-fault
returns-in_default-clause-fault g c = λ k inbox e is v m. absurd (is_update c.args.command.now k e is c.in_default.not-MirrorUpdate)
