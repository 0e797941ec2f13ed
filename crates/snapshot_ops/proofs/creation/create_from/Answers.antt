use Rattle.std.proofs.Common.{None}
use Rattle.step_model.proofs.FaultLemmas.{fault_along, ok_along}
use Rattle.snapshot_ops.proofs.CaseLemmas.{create_copies, create_empties, create_fetches}
use Rattle.snapshot_ops.proofs.creation.create_from.Goals as goal

pub returns-in-Empty-clause-ok : goal.returns-in-Empty-clause-ok
returns-in-Empty-clause-ok c = λ arrived v.
    ok_along None c.args.state.now _ _ arrived c.create_empty.result (create_empties c.args.state.now c.args.name.now c.args.origin.now c.in-Empty.is) (c.create_empty.ensures.ok arrived v)

pub returns-in-Empty-clause-fault : goal.returns-in-Empty-clause-fault
returns-in-Empty-clause-fault c = λ arrived v.
    fault_along None _ _ arrived c.create_empty.result (create_empties c.args.state.now c.args.name.now c.args.origin.now c.in-Empty.is) (c.create_empty.ensures.fault arrived v)

pub returns-in-Repo-clause-ok : goal.returns-in-Repo-clause-ok
returns-in-Repo-clause-ok c = λ arrived v.
    ok_along None c.args.state.now _ _ arrived c.create_copy.result (create_copies c.args.state.now c.args.name.now c.args.origin.now _ c.in-Repo.is) (c.create_copy.ensures.ok arrived v)

pub returns-in-Repo-clause-fault : goal.returns-in-Repo-clause-fault
returns-in-Repo-clause-fault c = λ arrived v.
    fault_along None _ _ arrived c.create_copy.result (create_copies c.args.state.now c.args.name.now c.args.origin.now _ c.in-Repo.is) (c.create_copy.ensures.fault arrived v)

pub returns-in-Mirror-clause-ok : goal.returns-in-Mirror-clause-ok
returns-in-Mirror-clause-ok c = λ arrived v.
    ok_along None c.args.state.now _ _ arrived c.create_fetched.result (create_fetches c.args.state.now c.args.name.now c.args.origin.now _ c.in-Mirror.is) (c.create_fetched.ensures.ok arrived v)

pub returns-in-Mirror-clause-fault : goal.returns-in-Mirror-clause-fault
returns-in-Mirror-clause-fault c = λ arrived v.
    fault_along None _ _ arrived c.create_fetched.result (create_fetches c.args.state.now c.args.name.now c.args.origin.now _ c.in-Mirror.is) (c.create_fetched.ensures.fault arrived v)
