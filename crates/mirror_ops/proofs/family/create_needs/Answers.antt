use Rattle.step_model.proofs.AskingLemmas.{asking_wanted, first_told, queries_told}
use Rattle.step_model.proofs.FaultLemmas.{at_exit, keeps_exit}
use Rattle.mirror_ops.specs.Settings.{asked}
use Rattle.mirror_ops.proofs.family.create_needs.Goals as goal

pub returns-in_err-create_early-clause-fault : goal.returns-in_err-create_early-clause-fault
returns-in_err-create_early-clause-fault g c = λ deps v.
    let fault = c.in_err-create_early.field-0.0 in
    at_exit c.from_residual.result fault _ c.from_residual.ensures.1 (first_told _ (asked c.args.filter.now) _ _ _ _ fault (c.in_err-create_early.ensures.fault v))

pub returns-in_err-filter_of-clause-fault : goal.returns-in_err-filter_of-clause-fault
returns-in_err-filter_of-clause-fault g c = λ deps v.
    let fault = c.in_err-filter_of.field-0.0 in
    at_exit c.from_residual-in_err-filter_of.result fault _ c.from_residual-in_err-filter_of.ensures.1
    (queries_told _ (asked c.args.filter.now) _ _ _ _ fault (c.in_ok-create_early.ensures.good v) c.in_err-filter_of.ensures.fault)

pub returns-in_err-filter_of-clause-kept : goal.returns-in_err-filter_of-clause-kept
returns-in_err-filter_of-clause-kept g c = keeps_exit _ _ c.from_residual-in_err-filter_of.result c.in_err-filter_of.field-0.0 c.from_residual-in_err-filter_of.ensures.1 c.in_err-filter_of.ensures.kept

pub returns-clause-ok : goal.returns-clause-ok
returns-clause-ok g c = λ deps v. asking_wanted _ (asked c.args.filter.now) _ (c.in_ok-create_early.ensures.good v) c.in_ok-filter_of.ensures.good
