use Rattle.std.proofs.Common.{ap, subst, None}
use Rattle.command_value.specs.Plain.{plain, repo_list}
use Rattle.step_model.specs.Case.{Case}
use Rattle.step_model.proofs.FaultLemmas.{err_map, fault_memory, fault_along, fault_told, ok_along, ok_told, refused_along}
use Rattle.repo_packages.specs.PackageCases.{ArrivesFor}
use Rattle.local_repo.proofs.CaseLemmas.{case_along, is_named, no_other}
use Rattle.local_repo.proofs.family.change.Goals as goal

pub returns-in-RepoCreate-clause-ok : goal.returns-in-RepoCreate-clause-ok
returns-in-RepoCreate-clause-ok g c = λ k inbox e v m.
    let state = c.args.state.now in
    let is = ap plain c.in-RepoCreate.is in
    ok_told _ _ _ state _ c.args.arrived.now c.create.result
    (ok_along None state _ _ c.args.arrived.now c.create.result (case_along state c.args.command.now k _ e is) (c.create.ensures.ok _ c.args.arrived.now is tt v))

pub returns-in-RepoCreate-clause-fault : goal.returns-in-RepoCreate-clause-fault
returns-in-RepoCreate-clause-fault g c = λ k inbox e v m.
    let state = c.args.state.now in
    let is = ap plain c.in-RepoCreate.is in
    fault_told _ _ _ _ c.args.arrived.now c.create.result
    (fault_along None _ _ c.args.arrived.now c.create.result (case_along state c.args.command.now k _ e is) (c.create.ensures.fault _ c.args.arrived.now is tt v))

pub returns-in-RepoShow-clause-ok : goal.returns-in-RepoShow-clause-ok
returns-in-RepoShow-clause-ok g c = λ k inbox e v m.
    let state = c.args.state.now in
    let is = ap plain c.in-RepoShow.is in
    ok_told _ _ _ state _ c.args.arrived.now c.show.result
    (ok_along None state _ _ c.args.arrived.now c.show.result (case_along state c.args.command.now k _ e is) (c.show.ensures.ok _ c.args.arrived.now is tt v))

pub returns-in-RepoShow-clause-fault : goal.returns-in-RepoShow-clause-fault
returns-in-RepoShow-clause-fault g c = λ k inbox e v m.
    let state = c.args.state.now in
    let is = ap plain c.in-RepoShow.is in
    fault_told _ _ _ _ c.args.arrived.now c.show.result
    (fault_along None _ _ c.args.arrived.now c.show.result (case_along state c.args.command.now k _ e is) (c.show.ensures.fault _ c.args.arrived.now is tt v))

pub returns-in-RepoEdit-clause-ok : goal.returns-in-RepoEdit-clause-ok
returns-in-RepoEdit-clause-ok g c = λ k inbox e v m.
    let state = c.args.state.now in
    let is = ap plain c.in-RepoEdit.is in
    ok_told _ _ _ state _ c.args.arrived.now c.edit.result
    (ok_along None state _ _ c.args.arrived.now c.edit.result (case_along state c.args.command.now k _ e is) (c.edit.ensures.ok _ c.args.arrived.now is tt v))

pub returns-in-RepoEdit-clause-fault : goal.returns-in-RepoEdit-clause-fault
returns-in-RepoEdit-clause-fault g c = λ k inbox e v m.
    let state = c.args.state.now in
    let is = ap plain c.in-RepoEdit.is in
    fault_told _ _ _ _ c.args.arrived.now c.edit.result
    (fault_along None _ _ c.args.arrived.now c.edit.result (case_along state c.args.command.now k _ e is) (c.edit.ensures.fault _ c.args.arrived.now is tt v))

pub returns-in-RepoRename-clause-ok : goal.returns-in-RepoRename-clause-ok
returns-in-RepoRename-clause-ok g c = λ k inbox e v m.
    let state = c.args.state.now in
    let is = ap plain c.in-RepoRename.is in
    ok_told _ _ _ state _ c.args.arrived.now c.rename.result
    (ok_along None state _ _ c.args.arrived.now c.rename.result (case_along state c.args.command.now k _ e is) (c.rename.ensures.ok _ c.args.arrived.now is tt v))

pub returns-in-RepoRename-clause-fault : goal.returns-in-RepoRename-clause-fault
returns-in-RepoRename-clause-fault g c = λ k inbox e v m.
    let state = c.args.state.now in
    let is = ap plain c.in-RepoRename.is in
    fault_told _ _ _ _ c.args.arrived.now c.rename.result
    (fault_along None _ _ c.args.arrived.now c.rename.result (case_along state c.args.command.now k _ e is) (c.rename.ensures.fault _ c.args.arrived.now is tt v))

pub returns-in-RepoDrop-clause-ok : goal.returns-in-RepoDrop-clause-ok
returns-in-RepoDrop-clause-ok g c = λ k inbox e v m.
    let state = c.args.state.now in
    let is = ap plain c.in-RepoDrop.is in
    ok_told _ _ _ state _ c.args.arrived.now c.drop.result
    (ok_along None state _ _ c.args.arrived.now c.drop.result (case_along state c.args.command.now k _ e is) (c.drop.ensures.ok _ c.args.arrived.now is tt v))

pub returns-in-RepoDrop-clause-fault : goal.returns-in-RepoDrop-clause-fault
returns-in-RepoDrop-clause-fault g c = λ k inbox e v m.
    let state = c.args.state.now in
    let is = ap plain c.in-RepoDrop.is in
    fault_told _ _ _ _ c.args.arrived.now c.drop.result
    (fault_along None _ _ c.args.arrived.now c.drop.result (case_along state c.args.command.now k _ e is) (c.drop.ensures.fault _ c.args.arrived.now is tt v))

pub returns-in-RepoAdd-clause-ok : goal.returns-in-RepoAdd-clause-ok
returns-in-RepoAdd-clause-ok g c = λ k inbox e v m.
    let state = c.args.state.now in
    let is = ap plain c.in-RepoAdd.is in
    let same = case_along state c.args.command.now k _ e is in
    ok_told _ _ _ state _ c.args.arrived.now c.taken.result
    (ok_along None state _ _ c.args.arrived.now c.taken.result same
    (c.taken.ensures.ok _ inbox is tt v (subst (λ (q : Case). ArrivesFor inbox state q c.args.arrived.now) same m)))

pub returns-in-RepoAdd-clause-fault : goal.returns-in-RepoAdd-clause-fault
returns-in-RepoAdd-clause-fault g c = λ k inbox e v m.
    let state = c.args.state.now in
    let is = ap plain c.in-RepoAdd.is in
    let same = case_along state c.args.command.now k _ e is in
    fault_told _ _ _ _ c.args.arrived.now c.taken.result
    (fault_along None _ _ c.args.arrived.now c.taken.result same
    (c.taken.ensures.fault _ inbox is tt v (subst (λ (q : Case). ArrivesFor inbox state q c.args.arrived.now) same m)))

pub returns-in-RepoAdd-clause-new : goal.returns-in-RepoAdd-clause-new
returns-in-RepoAdd-clause-new g c = λ k inbox e v m.
    let state = c.args.state.now in
    let is = ap plain c.in-RepoAdd.is in
    let same = case_along state c.args.command.now k _ e is in
    c.taken.ensures.new _ inbox is tt v (subst (λ (q : Case). ArrivesFor inbox state q c.args.arrived.now) same m)

pub returns-in-RepoList-clause-ok : goal.returns-in-RepoList-clause-ok
returns-in-RepoList-clause-ok g c = λ k inbox e v m.
    let state = c.args.state.now in
    ok_told _ _ _ state _ c.args.arrived.now c.list.result
    (ok_along None state _ _ c.args.arrived.now c.list.result (case_along state c.args.command.now k repo_list e (ap plain c.in-RepoList.is)) (c.list.ensures.ok c.args.arrived.now))

pub returns-in-RepoList-clause-fault : goal.returns-in-RepoList-clause-fault
returns-in-RepoList-clause-fault g c = λ k inbox e v m. err_map c.list.result _ _ (λ fault h. fault_memory _ fault h) c.list.ensures.fault

pub returns-in-RepoRemove-clause-ok : goal.returns-in-RepoRemove-clause-ok
returns-in-RepoRemove-clause-ok g c = λ k inbox e v m.
    let state = c.args.state.now in
    let is = ap plain c.in-RepoRemove.is in
    ok_told _ _ _ state _ c.args.arrived.now c.remove.result
    (ok_along None state _ _ c.args.arrived.now c.remove.result (case_along state c.args.command.now k _ e is) (c.remove.ensures.ok _ c.args.arrived.now is tt v))

pub returns-in-RepoRemove-clause-fault : goal.returns-in-RepoRemove-clause-fault
returns-in-RepoRemove-clause-fault g c = λ k inbox e v m.
    let state = c.args.state.now in
    let is = ap plain c.in-RepoRemove.is in
    refused_along _ _ _ _ _ c.args.arrived.now c.remove.result (case_along state c.args.command.now k _ e is) (c.remove.ensures.fault _ c.args.arrived.now is tt v)

pub returns-in-RepoCopy-clause-ok : goal.returns-in-RepoCopy-clause-ok
returns-in-RepoCopy-clause-ok g c = λ k inbox e v m.
    let state = c.args.state.now in
    let is = ap plain c.in-RepoCopy.is in
    ok_told _ _ _ state _ c.args.arrived.now c.copy.result
    (ok_along None state _ _ c.args.arrived.now c.copy.result (case_along state c.args.command.now k _ e is) (c.copy.ensures.ok _ c.args.arrived.now is tt v))

pub returns-in-RepoCopy-clause-fault : goal.returns-in-RepoCopy-clause-fault
returns-in-RepoCopy-clause-fault g c = λ k inbox e v m.
    let state = c.args.state.now in
    let is = ap plain c.in-RepoCopy.is in
    refused_along _ _ _ _ _ c.args.arrived.now c.copy.result (case_along state c.args.command.now k _ e is) (c.copy.ensures.fault _ c.args.arrived.now is tt v)

pub returns-in-RepoMove-clause-ok : goal.returns-in-RepoMove-clause-ok
returns-in-RepoMove-clause-ok g c = λ k inbox e v m.
    let state = c.args.state.now in
    let is = ap plain c.in-RepoMove.is in
    ok_told _ _ _ state _ c.args.arrived.now c.transfer.result
    (ok_along None state _ _ c.args.arrived.now c.transfer.result (case_along state c.args.command.now k _ e is) (c.transfer.ensures.ok _ c.args.arrived.now is tt v))

pub returns-in-RepoMove-clause-fault : goal.returns-in-RepoMove-clause-fault
returns-in-RepoMove-clause-fault g c = λ k inbox e v m.
    let state = c.args.state.now in
    let is = ap plain c.in-RepoMove.is in
    refused_along _ _ _ _ _ c.args.arrived.now c.transfer.result (case_along state c.args.command.now k _ e is) (c.transfer.ensures.fault _ c.args.arrived.now is tt v)

pub returns-in-RepoImport-clause-ok : goal.returns-in-RepoImport-clause-ok
returns-in-RepoImport-clause-ok g c = λ k inbox e v m.
    let state = c.args.state.now in
    let is = ap plain c.in-RepoImport.is in
    ok_told _ _ _ state _ c.args.arrived.now c.import.result
    (ok_along None state _ _ c.args.arrived.now c.import.result (case_along state c.args.command.now k _ e is) (c.import.ensures.ok _ c.args.arrived.now is tt v))

pub returns-in-RepoImport-clause-fault : goal.returns-in-RepoImport-clause-fault
returns-in-RepoImport-clause-fault g c = λ k inbox e v m.
    let state = c.args.state.now in
    let is = ap plain c.in-RepoImport.is in
    refused_along _ _ _ _ _ c.args.arrived.now c.import.result (case_along state c.args.command.now k _ e is) (c.import.ensures.fault _ c.args.arrived.now is tt v)

pub returns-in_default-clause-fault : goal.returns-in_default-clause-fault
returns-in_default-clause-fault g c = λ k inbox e v m.
    let d = c.in_default in
    let is = is_named c.args.state.now c.args.command.now k e d.not-RepoAdd d.not-RepoRemove d.not-RepoCopy d.not-RepoMove d.not-RepoImport in
    absurd (no_other c.args.state.now c.args.command.now k e is d.not-RepoCreate d.not-RepoList d.not-RepoShow d.not-RepoEdit d.not-RepoRename d.not-RepoDrop)
