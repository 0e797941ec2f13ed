use Rattle.std.proofs.Common.{ap, None}
use Rattle.command_value.specs.Plain.{plain}
use Rattle.step_model.proofs.FaultLemmas.{ok_along, fault_along}
use Rattle.local_repo.proofs.CaseLemmas.{case_along, is_create}
use Rattle.local_repo.proofs.creation.create.Goals as goal

pub returns-in-RepoCreate-clause-ok : goal.returns-in-RepoCreate-clause-ok
returns-in-RepoCreate-clause-ok g c = λ k arrived e is v.
    ok_along None c.args.state.now _ _ arrived c.create_with.result (case_along c.args.state.now c.args.command.now k _ e (ap plain c.in-RepoCreate.is)) (c.create_with.ensures.ok arrived v)

pub returns-in-RepoCreate-clause-fault : goal.returns-in-RepoCreate-clause-fault
returns-in-RepoCreate-clause-fault g c = λ k arrived e is v.
    fault_along None _ _ arrived c.create_with.result (case_along c.args.state.now c.args.command.now k _ e (ap plain c.in-RepoCreate.is)) (c.create_with.ensures.fault arrived v)

pub returns-in_default-clause-fault : goal.returns-in_default-clause-fault
returns-in_default-clause-fault g c = λ k arrived e is v. absurd (is_create c.args.command.now k e is c.in_default.not-RepoCreate)
