use Rattle.std.proofs.Common.{None}
use Rattle.step_model.proofs.FaultLemmas.{refuses_along, wanted_along}
use Rattle.snapshot_ops.proofs.CaseLemmas.{create_copies, create_empties, create_fetches}
use Rattle.snapshot_ops.proofs.family.create_needs.Goals as goal

pub returns-in-Empty-clause-ok : goal.returns-in-Empty-clause-ok
returns-in-Empty-clause-ok c = λ v. wanted_along None _ _ c.empty_needs.result (create_empties c.args.state.now c.args.name.now c.args.origin.now c.in-Empty.is) (c.empty_needs.ensures.ok v)

pub returns-in-Empty-clause-fault : goal.returns-in-Empty-clause-fault
returns-in-Empty-clause-fault c = λ v. refuses_along None _ _ c.empty_needs.result (create_empties c.args.state.now c.args.name.now c.args.origin.now c.in-Empty.is) (c.empty_needs.ensures.fault v)

pub returns-in-Repo-clause-ok : goal.returns-in-Repo-clause-ok
returns-in-Repo-clause-ok c = λ v. wanted_along None _ _ c.copy_needs.result (create_copies c.args.state.now c.args.name.now c.args.origin.now _ c.in-Repo.is) (c.copy_needs.ensures.ok v)

pub returns-in-Repo-clause-fault : goal.returns-in-Repo-clause-fault
returns-in-Repo-clause-fault c = λ v. refuses_along None _ _ c.copy_needs.result (create_copies c.args.state.now c.args.name.now c.args.origin.now _ c.in-Repo.is) (c.copy_needs.ensures.fault v)

pub returns-in-Mirror-clause-ok : goal.returns-in-Mirror-clause-ok
returns-in-Mirror-clause-ok c = λ v. wanted_along None _ _ c.fetched_needs.result (create_fetches c.args.state.now c.args.name.now c.args.origin.now _ c.in-Mirror.is) (c.fetched_needs.ensures.ok v)

pub returns-in-Mirror-clause-fault : goal.returns-in-Mirror-clause-fault
returns-in-Mirror-clause-fault c = λ v. refuses_along None _ _ c.fetched_needs.result (create_fetches c.args.state.now c.args.name.now c.args.origin.now _ c.in-Mirror.is) (c.fetched_needs.ensures.fault v)
