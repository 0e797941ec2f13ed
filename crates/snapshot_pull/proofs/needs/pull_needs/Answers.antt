use Rattle.command_value.specs.Plain.{plain_follow}
use Rattle.step_model.proofs.AskingLemmas.{asking_wanted, first_told, queries_told}
use Rattle.step_model.proofs.FaultLemmas.{at_exit, keeps_exit}
use Rattle.snapshot_pull.specs.Pulls.{bad_pull, pull_case}
use Rattle.snapshot_pull.proofs.needs.pull_needs.Goals as goal

pub returns-in_err-pull_early-clause-fault : goal.returns-in_err-pull_early-clause-fault
unfolding pull_case
returns-in_err-pull_early-clause-fault g c = λ dry flags v.
    let fault = c.in_err-pull_early.field-0.0 in
    let early = bad_pull c.args.state.now (plain_follow c.args.follow.now) c.args.name.now c.args.source.now c.args.destination.now in
    at_exit c.from_residual.result fault _ c.from_residual.ensures.1 (first_told early c.args.queries.now _ _ _ _ fault (c.in_err-pull_early.ensures.fault v))

pub returns-in_err-prepared_all-clause-fault : goal.returns-in_err-prepared_all-clause-fault
unfolding pull_case
returns-in_err-prepared_all-clause-fault g c = λ dry flags v.
    let fault = c.in_err-prepared_all.field-0.0 in
    let early = bad_pull c.args.state.now (plain_follow c.args.follow.now) c.args.name.now c.args.source.now c.args.destination.now in
    at_exit c.from_residual-in_err-prepared_all.result fault _ c.from_residual-in_err-prepared_all.ensures.1
    (queries_told early c.args.queries.now _ _ _ _ fault (c.in_ok-pull_early.ensures.good v) c.in_err-prepared_all.ensures.fault)

pub returns-in_err-prepared_all-clause-kept : goal.returns-in_err-prepared_all-clause-kept
returns-in_err-prepared_all-clause-kept g c = keeps_exit _ _ c.from_residual-in_err-prepared_all.result c.in_err-prepared_all.field-0.0 c.from_residual-in_err-prepared_all.ensures.1 c.in_err-prepared_all.ensures.kept

pub returns-clause-ok : goal.returns-clause-ok
unfolding pull_case
returns-clause-ok g c = λ dry flags v.
    asking_wanted (bad_pull c.args.state.now (plain_follow c.args.follow.now) c.args.name.now c.args.source.now c.args.destination.now) c.args.queries.now _ (c.in_ok-pull_early.ensures.good v) c.in_ok-prepared_all.ensures.good
