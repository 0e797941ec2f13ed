use Rattle.std.proofs.Common.{ap, subst, sym, None}
use Rattle.command_value.specs.Plain.{plain, repo_list}
use Rattle.step_model.specs.declared.reading.Reading.TheVariants as readings
use Rattle.step_model.specs.Answers.{IsWanted}
use Rattle.step_model.specs.Case.{Case}
use Rattle.step_model.proofs.FaultLemmas.{refuses_along, wanted_along}
use Rattle.local_repo.proofs.CaseLemmas.{case_along, list_wanted, no_other}
use Rattle.local_repo.proofs.named.named_needs.Goals as goal

pub returns-in-RepoCreate-clause-ok : goal.returns-in-RepoCreate-clause-ok
returns-in-RepoCreate-clause-ok c = λ k e is v. wanted_along None _ _ c.create_needs.result (case_along c.args.state.now c.args.command.now k _ e (ap plain c.in-RepoCreate.is)) (c.create_needs.ensures.ok v)

pub returns-in-RepoCreate-clause-fault : goal.returns-in-RepoCreate-clause-fault
returns-in-RepoCreate-clause-fault c = λ k e is v. refuses_along None _ _ c.create_needs.result (case_along c.args.state.now c.args.command.now k _ e (ap plain c.in-RepoCreate.is)) (c.create_needs.ensures.fault v)

pub returns-in-RepoShow-clause-ok : goal.returns-in-RepoShow-clause-ok
returns-in-RepoShow-clause-ok c = λ k e is v. wanted_along None _ _ c.show_needs.result (case_along c.args.state.now c.args.command.now k _ e (ap plain c.in-RepoShow.is)) (c.show_needs.ensures.ok v)

pub returns-in-RepoShow-clause-fault : goal.returns-in-RepoShow-clause-fault
returns-in-RepoShow-clause-fault c = λ k e is v. refuses_along None _ _ c.show_needs.result (case_along c.args.state.now c.args.command.now k _ e (ap plain c.in-RepoShow.is)) (c.show_needs.ensures.fault v)

pub returns-in-RepoEdit-clause-ok : goal.returns-in-RepoEdit-clause-ok
returns-in-RepoEdit-clause-ok c = λ k e is v. wanted_along None _ _ c.edit_needs.result (case_along c.args.state.now c.args.command.now k _ e (ap plain c.in-RepoEdit.is)) (c.edit_needs.ensures.ok v)

pub returns-in-RepoEdit-clause-fault : goal.returns-in-RepoEdit-clause-fault
returns-in-RepoEdit-clause-fault c = λ k e is v. refuses_along None _ _ c.edit_needs.result (case_along c.args.state.now c.args.command.now k _ e (ap plain c.in-RepoEdit.is)) (c.edit_needs.ensures.fault v)

pub returns-in-RepoRename-clause-ok : goal.returns-in-RepoRename-clause-ok
returns-in-RepoRename-clause-ok c = λ k e is v. wanted_along None _ _ c.rename_needs.result (case_along c.args.state.now c.args.command.now k _ e (ap plain c.in-RepoRename.is)) (c.rename_needs.ensures.ok v)

pub returns-in-RepoRename-clause-fault : goal.returns-in-RepoRename-clause-fault
returns-in-RepoRename-clause-fault c = λ k e is v. refuses_along None _ _ c.rename_needs.result (case_along c.args.state.now c.args.command.now k _ e (ap plain c.in-RepoRename.is)) (c.rename_needs.ensures.fault v)

pub returns-in-RepoDrop-clause-ok : goal.returns-in-RepoDrop-clause-ok
returns-in-RepoDrop-clause-ok c = λ k e is v. wanted_along None _ _ c.drop_needs.result (case_along c.args.state.now c.args.command.now k _ e (ap plain c.in-RepoDrop.is)) (c.drop_needs.ensures.ok v)

pub returns-in-RepoDrop-clause-fault : goal.returns-in-RepoDrop-clause-fault
returns-in-RepoDrop-clause-fault c = λ k e is v. refuses_along None _ _ c.drop_needs.result (case_along c.args.state.now c.args.command.now k _ e (ap plain c.in-RepoDrop.is)) (c.drop_needs.ensures.fault v)

pub returns-in-RepoList-clause-ok : goal.returns-in-RepoList-clause-ok
returns-in-RepoList-clause-ok c = λ k e is v. subst (λ (q : Case). IsWanted None q readings.Nothing) (sym (case_along c.args.state.now c.args.command.now k repo_list e (ap plain c.in-RepoList.is))) (list_wanted c.args.state.now)

pub returns-in_default-clause-fault : goal.returns-in_default-clause-fault
returns-in_default-clause-fault c = λ k e is v.
    let d = c.in_default in
    absurd (no_other c.args.state.now c.args.command.now k e is d.not-RepoCreate d.not-RepoList d.not-RepoShow d.not-RepoEdit d.not-RepoRename d.not-RepoDrop)
