use Rattle.std.proofs.Common.{ap, subst, None, inl}
use Rattle.command_value.specs.Plain.{plain, mirror_list}
use Rattle.machine_state.specs.declared.refusal.Refusal.TheVariants.{NotBuilt}
use Rattle.step_model.specs.Case.{Case}
use Rattle.step_model.proofs.RefusalLemmas.{refuses_first}
use Rattle.step_model.proofs.FaultLemmas.{err_map, fault_memory, fault_along, fault_told, ok_along, refused_along}
use Rattle.mirror_ops.specs.Cases.{ArrivesFor}
use Rattle.mirror_ops.proofs.CaseLemmas.{case_along, other_early}
use Rattle.mirror_ops.proofs.family.change.Goals as goal

pub returns-in-MirrorCreate-clause-ok : goal.returns-in-MirrorCreate-clause-ok
returns-in-MirrorCreate-clause-ok g c = λ k inbox e v m.
    let is = ap plain c.in-MirrorCreate.is in
    ok_along None c.args.state.now _ _ c.args.arrived.now c.create.result (case_along c.args.state.now c.args.command.now k _ e is) (c.create.ensures.ok _ c.args.arrived.now is tt v)

pub returns-in-MirrorCreate-clause-fault : goal.returns-in-MirrorCreate-clause-fault
returns-in-MirrorCreate-clause-fault g c = λ k inbox e v m.
    let is = ap plain c.in-MirrorCreate.is in
    refused_along _ _ _ _ _ c.args.arrived.now c.create.result (case_along c.args.state.now c.args.command.now k _ e is) (c.create.ensures.fault _ c.args.arrived.now is tt v)

pub returns-in-MirrorUpdate-clause-ok : goal.returns-in-MirrorUpdate-clause-ok
returns-in-MirrorUpdate-clause-ok g c = λ k inbox e v m.
    let state = c.args.state.now in
    let is = ap plain c.in-MirrorUpdate.is in
    let same = case_along state c.args.command.now k _ e is in
    ok_along None state _ _ c.args.arrived.now c.update.result same
    (c.update.ensures.ok _ inbox is tt v (subst (λ (q : Case). ArrivesFor inbox state q c.args.arrived.now) same m))

pub returns-in-MirrorUpdate-clause-fault : goal.returns-in-MirrorUpdate-clause-fault
returns-in-MirrorUpdate-clause-fault g c = λ k inbox e v m.
    let state = c.args.state.now in
    let is = ap plain c.in-MirrorUpdate.is in
    let same = case_along state c.args.command.now k _ e is in
    fault_told _ _ _ _ c.args.arrived.now c.update.result
    (fault_along None _ _ c.args.arrived.now c.update.result same
    (c.update.ensures.fault _ inbox is tt v (subst (λ (q : Case). ArrivesFor inbox state q c.args.arrived.now) same m)))

pub returns-in-MirrorShow-clause-ok : goal.returns-in-MirrorShow-clause-ok
returns-in-MirrorShow-clause-ok g c = λ k inbox e v m.
    let is = ap plain c.in-MirrorShow.is in
    ok_along None c.args.state.now _ _ c.args.arrived.now c.show.result (case_along c.args.state.now c.args.command.now k _ e is) (c.show.ensures.ok _ c.args.arrived.now is tt v)

pub returns-in-MirrorShow-clause-fault : goal.returns-in-MirrorShow-clause-fault
returns-in-MirrorShow-clause-fault g c = λ k inbox e v m.
    let is = ap plain c.in-MirrorShow.is in
    fault_told _ _ _ _ c.args.arrived.now c.show.result (fault_along None _ _ c.args.arrived.now c.show.result (case_along c.args.state.now c.args.command.now k _ e is) (c.show.ensures.fault _ c.args.arrived.now is tt v))

pub returns-in-MirrorRename-clause-ok : goal.returns-in-MirrorRename-clause-ok
returns-in-MirrorRename-clause-ok g c = λ k inbox e v m.
    let is = ap plain c.in-MirrorRename.is in
    ok_along None c.args.state.now _ _ c.args.arrived.now c.rename.result (case_along c.args.state.now c.args.command.now k _ e is) (c.rename.ensures.ok _ c.args.arrived.now is tt v)

pub returns-in-MirrorRename-clause-fault : goal.returns-in-MirrorRename-clause-fault
returns-in-MirrorRename-clause-fault g c = λ k inbox e v m.
    let is = ap plain c.in-MirrorRename.is in
    fault_told _ _ _ _ c.args.arrived.now c.rename.result (fault_along None _ _ c.args.arrived.now c.rename.result (case_along c.args.state.now c.args.command.now k _ e is) (c.rename.ensures.fault _ c.args.arrived.now is tt v))

pub returns-in-MirrorDrop-clause-ok : goal.returns-in-MirrorDrop-clause-ok
returns-in-MirrorDrop-clause-ok g c = λ k inbox e v m.
    let is = ap plain c.in-MirrorDrop.is in
    ok_along None c.args.state.now _ _ c.args.arrived.now c.drop.result (case_along c.args.state.now c.args.command.now k _ e is) (c.drop.ensures.ok _ c.args.arrived.now is tt v)

pub returns-in-MirrorDrop-clause-fault : goal.returns-in-MirrorDrop-clause-fault
returns-in-MirrorDrop-clause-fault g c = λ k inbox e v m.
    let is = ap plain c.in-MirrorDrop.is in
    fault_told _ _ _ _ c.args.arrived.now c.drop.result (fault_along None _ _ c.args.arrived.now c.drop.result (case_along c.args.state.now c.args.command.now k _ e is) (c.drop.ensures.fault _ c.args.arrived.now is tt v))

pub returns-in-MirrorList-clause-ok : goal.returns-in-MirrorList-clause-ok
returns-in-MirrorList-clause-ok g c = λ k inbox e v m.
    ok_along None c.args.state.now _ _ c.args.arrived.now c.list.result (case_along c.args.state.now c.args.command.now k mirror_list e (ap plain c.in-MirrorList.is)) (c.list.ensures.ok c.args.arrived.now)

pub returns-in-MirrorList-clause-fault : goal.returns-in-MirrorList-clause-fault
returns-in-MirrorList-clause-fault g c = λ k inbox e v m. err_map c.list.result _ _ (λ fault h. fault_memory _ fault h) c.list.ensures.fault

pub returns-in_default-clause-fault : goal.returns-in_default-clause-fault
returns-in_default-clause-fault g c = λ k inbox e v m.
    let d = c.in_default in
    (None, tt, inl (refuses_first None _ NotBuilt (other_early c.args.command.now d.not-MirrorCreate d.not-MirrorUpdate d.not-MirrorList d.not-MirrorShow d.not-MirrorRename d.not-MirrorDrop c.args.state.now k e)))
