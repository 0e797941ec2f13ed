use Rattle.std.proofs.Common.{ap, subst, None}
use Rattle.command_value.specs.Plain.{plain}
use Rattle.step_model.specs.Case.{Case}
use Rattle.step_model.proofs.FaultLemmas.{ok_along, fault_along}
use Rattle.repo_packages.specs.PackageCases.{ArrivesFor}
use Rattle.local_repo.specs.Cases.{repo_case}
use Rattle.local_repo.proofs.CaseLemmas.{case_along, is_add}
use Rattle.local_repo.proofs.packages.taken.Goals as goal

pub returns-in-RepoAdd-clause-ok : goal.returns-in-RepoAdd-clause-ok
unfolding repo_case
returns-in-RepoAdd-clause-ok c = λ k inbox e is v m.
    let state = c.args.state.now in
    let same = case_along state c.args.command.now k _ e (ap plain c.in-RepoAdd.is) in
    ok_along None state _ _ c.args.arrived.now c.add_packages.result same
    (c.add_packages.ensures.ok inbox v (subst (λ (q : Case). ArrivesFor inbox state q c.args.arrived.now) same m))

pub returns-in-RepoAdd-clause-fault : goal.returns-in-RepoAdd-clause-fault
unfolding repo_case
returns-in-RepoAdd-clause-fault c = λ k inbox e is v m.
    let state = c.args.state.now in
    let same = case_along state c.args.command.now k _ e (ap plain c.in-RepoAdd.is) in
    fault_along None _ _ c.args.arrived.now c.add_packages.result same
    (c.add_packages.ensures.fault inbox v (subst (λ (q : Case). ArrivesFor inbox state q c.args.arrived.now) same m))

pub returns-in-RepoAdd-clause-new : goal.returns-in-RepoAdd-clause-new
unfolding repo_case
returns-in-RepoAdd-clause-new c = λ k inbox e is v m.
    let state = c.args.state.now in
    let same = case_along state c.args.command.now k _ e (ap plain c.in-RepoAdd.is) in
    c.add_packages.ensures.new inbox v (subst (λ (q : Case). ArrivesFor inbox state q c.args.arrived.now) same m)

pub returns-in_default-clause-fault : goal.returns-in_default-clause-fault
returns-in_default-clause-fault c = λ k inbox e is v m. absurd (is_add c.args.command.now k e is c.in_default.not-RepoAdd)
