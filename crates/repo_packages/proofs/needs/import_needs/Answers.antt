use Rattle.command_value.specs.Plain.{plain_follow}
use Rattle.step_model.proofs.FaultLemmas.{at_exit, keeps_exit}
use Rattle.repo_packages.proofs.ImportLemmas.{import_first, import_late, import_told, import_wanted}
use Rattle.repo_packages.proofs.needs.import_needs.Goals as goal

pub returns-in_err-from-clause-fault : goal.returns-in_err-from-clause-fault
returns-in_err-from-clause-fault g c = λ dry deps v.
    let fault = c.in_err-from.field-0.0 in
    at_exit c.from_residual.result fault _ c.from_residual.ensures.1 (import_first c.args.state.now dry deps (plain_follow c.args.follow.now) c.args.mirror.now c.args.repo.now c.args.queries.now _ _ _ fault (c.in_err-from.ensures.fault v))

pub returns-in_err-prepared_all-clause-fault : goal.returns-in_err-prepared_all-clause-fault
returns-in_err-prepared_all-clause-fault g c = λ dry deps v.
    let fault = c.in_err-prepared_all.field-0.0 in
    at_exit c.from_residual-in_err-prepared_all.result fault _ c.from_residual-in_err-prepared_all.ensures.1
    (import_told c.args.state.now dry deps (plain_follow c.args.follow.now) c.args.mirror.now c.args.repo.now c.args.queries.now (c.in_ok-from.ensures.good v) _ _ _ fault c.in_err-prepared_all.ensures.fault)

pub returns-in_err-prepared_all-clause-kept : goal.returns-in_err-prepared_all-clause-kept
returns-in_err-prepared_all-clause-kept g c = keeps_exit _ _ c.from_residual-in_err-prepared_all.result c.in_err-prepared_all.field-0.0 c.from_residual-in_err-prepared_all.ensures.1 c.in_err-prepared_all.ensures.kept

pub returns-in_err-updated_of-clause-fault : goal.returns-in_err-updated_of-clause-fault
returns-in_err-updated_of-clause-fault g c = λ dry deps v.
    let fault = c.in_err-updated_of.field-0.0 in
    let e = c.in_ok-from.ensures in
    at_exit c.from_residual-in_err-updated_of.result fault _ c.from_residual-in_err-updated_of.ensures.1
    (import_late c.args.state.now dry deps (plain_follow c.args.follow.now) c.args.mirror.now c.args.repo.now c.args.queries.now (e.good v) c.in_ok-prepared_all.ensures.good c.in_ok-from.from.now (e.mirror v) _ _ _ fault c.in_err-updated_of.ensures.fault)

pub returns-clause-ok : goal.returns-clause-ok
returns-clause-ok g c = λ dry deps v.
    let e = c.in_ok-from.ensures in
    import_wanted c.args.state.now dry deps (plain_follow c.args.follow.now) c.args.mirror.now c.args.repo.now c.args.queries.now (e.good v) c.in_ok-prepared_all.ensures.good c.in_ok-from.from.now (e.mirror v) c.in_ok-updated_of.ensures.good
