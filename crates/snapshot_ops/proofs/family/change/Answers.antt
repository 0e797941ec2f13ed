use Rattle.std.proofs.Common.{ap, None, inl}
use Rattle.command_value.specs.Plain.{plain, snapshot_list}
use Rattle.machine_state.specs.declared.refusal.Refusal.TheVariants.{NotBuilt}
use Rattle.step_model.proofs.RefusalLemmas.{refuses_first}
use Rattle.step_model.proofs.FaultLemmas.{err_map, fault_memory, fault_along, fault_told, ok_along, refused_along}
use Rattle.snapshot_ops.specs.Cases.{snapshot_case}
use Rattle.snapshot_ops.proofs.CaseLemmas.{case_along, other_early}
use Rattle.snapshot_ops.proofs.family.change.Goals as goal

pub returns-in-SnapshotCreate-clause-ok : goal.returns-in-SnapshotCreate-clause-ok
returns-in-SnapshotCreate-clause-ok g c = λ k e arrived v.
    let is = ap plain c.in-SnapshotCreate.is in
    ok_along None c.args.state.now _ _ arrived c.create.result (case_along c.args.state.now c.args.command.now k _ e is) (c.create.ensures.ok _ _ is arrived v)

pub returns-in-SnapshotCreate-clause-fault : goal.returns-in-SnapshotCreate-clause-fault
returns-in-SnapshotCreate-clause-fault g c = λ k e arrived v.
    let is = ap plain c.in-SnapshotCreate.is in
    fault_told _ _ _ _ arrived c.create.result (fault_along None _ _ arrived c.create.result (case_along c.args.state.now c.args.command.now k _ e is) (c.create.ensures.fault _ _ is arrived v))

pub returns-in-SnapshotShow-clause-ok : goal.returns-in-SnapshotShow-clause-ok
returns-in-SnapshotShow-clause-ok g c = λ k e arrived v.
    let is = ap plain c.in-SnapshotShow.is in
    ok_along None c.args.state.now _ _ arrived c.show.result (case_along c.args.state.now c.args.command.now k _ e is) (c.show.ensures.ok _ _ is arrived v)

pub returns-in-SnapshotShow-clause-fault : goal.returns-in-SnapshotShow-clause-fault
returns-in-SnapshotShow-clause-fault g c = λ k e arrived v.
    let is = ap plain c.in-SnapshotShow.is in
    fault_told _ _ _ _ arrived c.show.result (fault_along None _ _ arrived c.show.result (case_along c.args.state.now c.args.command.now k _ e is) (c.show.ensures.fault _ _ is arrived v))

pub returns-in-SnapshotFilter-clause-ok : goal.returns-in-SnapshotFilter-clause-ok
returns-in-SnapshotFilter-clause-ok g c = λ k e arrived v.
    let is = ap plain c.in-SnapshotFilter.is in
    ok_along None c.args.state.now _ _ arrived c.filter.result (case_along c.args.state.now c.args.command.now k _ e is) (c.filter.ensures.ok _ _ _ _ _ is arrived v)

pub returns-in-SnapshotFilter-clause-fault : goal.returns-in-SnapshotFilter-clause-fault
returns-in-SnapshotFilter-clause-fault g c = λ k e arrived v.
    let is = ap plain c.in-SnapshotFilter.is in
    refused_along _ _ _ _ _ arrived c.filter.result (case_along c.args.state.now c.args.command.now k _ e is) (c.filter.ensures.fault _ _ _ _ _ is arrived v)

pub returns-in-SnapshotMerge-clause-ok : goal.returns-in-SnapshotMerge-clause-ok
returns-in-SnapshotMerge-clause-ok g c = λ k e arrived v.
    let is = ap plain c.in-SnapshotMerge.is in
    ok_along None c.args.state.now _ _ arrived c.merge.result (case_along c.args.state.now c.args.command.now k _ e is) (c.merge.ensures.ok _ _ _ _ is arrived v)

pub returns-in-SnapshotMerge-clause-fault : goal.returns-in-SnapshotMerge-clause-fault
returns-in-SnapshotMerge-clause-fault g c = λ k e arrived v.
    let is = ap plain c.in-SnapshotMerge.is in
    fault_told _ _ _ _ arrived c.merge.result (fault_along None _ _ arrived c.merge.result (case_along c.args.state.now c.args.command.now k _ e is) (c.merge.ensures.fault _ _ _ _ is arrived v))

pub returns-in-SnapshotPull-clause-ok : goal.returns-in-SnapshotPull-clause-ok
unfolding snapshot_case
returns-in-SnapshotPull-clause-ok g c = λ k e arrived v.
    let is = ap plain c.in-SnapshotPull.is in
    ok_along None c.args.state.now _ _ arrived c.pull.result (case_along c.args.state.now c.args.command.now k _ e is) (c.pull.ensures.ok _ _ _ _ _ _ _ _ _ is arrived v)

pub returns-in-SnapshotPull-clause-fault : goal.returns-in-SnapshotPull-clause-fault
unfolding snapshot_case
returns-in-SnapshotPull-clause-fault g c = λ k e arrived v.
    let is = ap plain c.in-SnapshotPull.is in
    refused_along _ _ _ _ _ arrived c.pull.result (case_along c.args.state.now c.args.command.now k _ e is) (c.pull.ensures.fault _ _ _ _ _ _ _ _ _ is arrived v)

pub returns-in-SnapshotSearch-clause-ok : goal.returns-in-SnapshotSearch-clause-ok
returns-in-SnapshotSearch-clause-ok g c = λ k e arrived v.
    let is = ap plain c.in-SnapshotSearch.is in
    ok_along None c.args.state.now _ _ arrived c.search.result (case_along c.args.state.now c.args.command.now k _ e is) (c.search.ensures.ok _ _ _ _ is arrived v)

pub returns-in-SnapshotSearch-clause-fault : goal.returns-in-SnapshotSearch-clause-fault
returns-in-SnapshotSearch-clause-fault g c = λ k e arrived v.
    let is = ap plain c.in-SnapshotSearch.is in
    refused_along _ _ _ _ _ arrived c.search.result (case_along c.args.state.now c.args.command.now k _ e is) (c.search.ensures.fault _ _ _ _ is arrived v)

pub returns-in-SnapshotRename-clause-ok : goal.returns-in-SnapshotRename-clause-ok
returns-in-SnapshotRename-clause-ok g c = λ k e arrived v.
    let is = ap plain c.in-SnapshotRename.is in
    ok_along None c.args.state.now _ _ arrived c.rename.result (case_along c.args.state.now c.args.command.now k _ e is) (c.rename.ensures.ok _ _ is arrived v)

pub returns-in-SnapshotRename-clause-fault : goal.returns-in-SnapshotRename-clause-fault
returns-in-SnapshotRename-clause-fault g c = λ k e arrived v.
    let is = ap plain c.in-SnapshotRename.is in
    fault_told _ _ _ _ arrived c.rename.result (fault_along None _ _ arrived c.rename.result (case_along c.args.state.now c.args.command.now k _ e is) (c.rename.ensures.fault _ _ is arrived v))

pub returns-in-SnapshotDrop-clause-ok : goal.returns-in-SnapshotDrop-clause-ok
returns-in-SnapshotDrop-clause-ok g c = λ k e arrived v.
    let is = ap plain c.in-SnapshotDrop.is in
    ok_along None c.args.state.now _ _ arrived c.drop.result (case_along c.args.state.now c.args.command.now k _ e is) (c.drop.ensures.ok _ is arrived v)

pub returns-in-SnapshotDrop-clause-fault : goal.returns-in-SnapshotDrop-clause-fault
returns-in-SnapshotDrop-clause-fault g c = λ k e arrived v.
    let is = ap plain c.in-SnapshotDrop.is in
    fault_told _ _ _ _ arrived c.drop.result (fault_along None _ _ arrived c.drop.result (case_along c.args.state.now c.args.command.now k _ e is) (c.drop.ensures.fault _ is arrived v))

pub returns-in-SnapshotList-clause-ok : goal.returns-in-SnapshotList-clause-ok
returns-in-SnapshotList-clause-ok g c = λ k e arrived v.
    ok_along None c.args.state.now _ _ arrived c.list.result (case_along c.args.state.now c.args.command.now k snapshot_list e (ap plain c.in-SnapshotList.is)) (c.list.ensures.ok arrived v)

pub returns-in-SnapshotList-clause-fault : goal.returns-in-SnapshotList-clause-fault
returns-in-SnapshotList-clause-fault g c = λ k e arrived v. err_map c.list.result _ _ (λ fault h. fault_memory _ fault h) c.list.ensures.fault

pub returns-in_default-clause-fault : goal.returns-in_default-clause-fault
returns-in_default-clause-fault g c = λ k e arrived v.
    let d = c.in_default in
    (None, tt, inl (refuses_first None _ NotBuilt (other_early c.args.command.now d.not-SnapshotCreate d.not-SnapshotList d.not-SnapshotShow d.not-SnapshotFilter d.not-SnapshotMerge d.not-SnapshotPull d.not-SnapshotSearch d.not-SnapshotRename d.not-SnapshotDrop c.args.state.now k e)))
