use Rattle.std.proofs.Common.{◌∷◌, []}
use Rattle.command_value.specs.Plain.{plain_follow}
use Rattle.step_model.proofs.AskingLemmas.{asking_wanted, first_told, queries_told}
use Rattle.step_model.proofs.FaultLemmas.{at_exit, keeps_exit}
use Rattle.snapshot_ops.specs.Cases.{bad_search}
use Rattle.snapshot_ops.proofs.family.search_needs.Goals as goal

pub returns-in_err-search_early-clause-fault : goal.returns-in_err-search_early-clause-fault
returns-in_err-search_early-clause-fault g c = λ deps v.
    let fault = c.in_err-search_early.field-0.0 in
    at_exit c.from_residual.result fault _ c.from_residual.ensures.1 (first_told (bad_search c.args.state.now (plain_follow c.args.follow.now) c.args.name.now) (c.args.query.now ∷ []) _ _ _ _ fault (c.in_err-search_early.ensures.fault v))

pub returns-in_err-prepared-clause-fault : goal.returns-in_err-prepared-clause-fault
returns-in_err-prepared-clause-fault g c = λ deps v.
    let fault = c.in_err-prepared.field-0.0 in
    at_exit c.from_residual-in_err-prepared.result fault _ c.from_residual-in_err-prepared.ensures.1
    (queries_told (bad_search c.args.state.now (plain_follow c.args.follow.now) c.args.name.now) (c.args.query.now ∷ []) _ _ _ _ fault (c.in_ok-search_early.ensures.good v) c.in_err-prepared.ensures.fault)

pub returns-in_err-prepared-clause-kept : goal.returns-in_err-prepared-clause-kept
returns-in_err-prepared-clause-kept g c = keeps_exit _ _ c.from_residual-in_err-prepared.result c.in_err-prepared.field-0.0 c.from_residual-in_err-prepared.ensures.1 c.in_err-prepared.ensures.kept

pub returns-clause-ok : goal.returns-clause-ok
returns-clause-ok g c = λ deps v. asking_wanted (bad_search c.args.state.now (plain_follow c.args.follow.now) c.args.name.now) (c.args.query.now ∷ []) _ (c.in_ok-search_early.ensures.good v) c.in_ok-prepared.ensures.good
