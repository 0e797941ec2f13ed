use Rattle.command_value.specs.Plain.{plain_follow}
use Rattle.step_model.proofs.AskingLemmas.{first_told}
use Rattle.step_model.proofs.FaultLemmas.{at_exit, keeps_exit}
use Rattle.repo_packages.specs.PackageCases.{bad_transfer}
use Rattle.repo_packages.proofs.PairLemmas.{pair_told, pair_wanted}
use Rattle.repo_packages.proofs.needs.pair_needs.Goals as goal

pub returns-in_err-pair_early-clause-fault : goal.returns-in_err-pair_early-clause-fault
returns-in_err-pair_early-clause-fault g c = λ deps comes v.
    let fault = c.in_err-pair_early.field-0.0 in
    at_exit c.from_residual.result fault _ c.from_residual.ensures.1 (first_told (bad_transfer c.args.state.now (plain_follow c.args.follow.now) c.args.source.now c.args.destination.now) c.args.queries.now _ _ _ _ fault (c.in_err-pair_early.ensures.fault v))

pub returns-in_err-prepared_all-clause-fault : goal.returns-in_err-prepared_all-clause-fault
returns-in_err-prepared_all-clause-fault g c = λ deps comes v.
    let fault = c.in_err-prepared_all.field-0.0 in
    let e = c.in_ok-pair_early.ensures in
    at_exit c.from_residual-in_err-prepared_all.result fault _ c.from_residual-in_err-prepared_all.ensures.1
    (pair_told c.args.state.now deps (plain_follow c.args.follow.now) c.args.source.now c.args.destination.now c.args.queries.now comes (e.good v) _ _ _ fault c.in_err-prepared_all.ensures.fault)

pub returns-in_err-prepared_all-clause-kept : goal.returns-in_err-prepared_all-clause-kept
returns-in_err-prepared_all-clause-kept g c = keeps_exit _ _ c.from_residual-in_err-prepared_all.result c.in_err-prepared_all.field-0.0 c.from_residual-in_err-prepared_all.ensures.1 c.in_err-prepared_all.ensures.kept

pub returns-clause-ok : goal.returns-clause-ok
returns-clause-ok g c = λ deps comes v.
    let e = c.in_ok-pair_early.ensures in
    pair_wanted c.args.state.now deps (plain_follow c.args.follow.now) c.args.source.now c.args.destination.now c.args.queries.now comes (e.good v) c.in_ok-prepared_all.ensures.good
