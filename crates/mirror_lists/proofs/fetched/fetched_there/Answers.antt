use Rattle.std.proofs.Common.{◌∙◌, Option, ap, sym, subst}
use Rattle.std.proofs.lemmas.Result.{IfOk-weaker, on_ok_weaker}
use Rattle.machine_state.specs.declared.refusal.Refusal.{Refusal}
use Rattle.step_model.specs.Answers.{IsFirst}
use Rattle.step_model.specs.Case.{or_else}
use Rattle.step_model.proofs.FaultLemmas.{at_exit, err_map, first_decides, second_decides}
use Rattle.mirror_lists.specs.Mirrors.{never_updated, unknown_mirror}
use Rattle.mirror_lists.proofs.MirrorLemmas.{fetched_is, never_is}
use Rattle.mirror_lists.proofs.fetched.fetched_there.Goals as goal

pub returns-in_err-mirror-clause-fault : goal.returns-in_err-mirror-clause-fault
returns-in_err-mirror-clause-fault c = λ v.
    let fault = c.in_err-mirror.field-0.0 in
    at_exit c.from_residual.result fault _ c.from_residual.ensures.1 (first_decides _ (never_updated c.args.state.now c.args.name.now) fault (c.in_err-mirror.ensures.fault v))

pub returns-clause-good : goal.returns-clause-good
returns-clause-good c = λ v.
    let state = c.args.state.now in
    let name = c.args.name.now in
    let never = never_is state name c.in_ok-mirror.mirror.now (c.in_ok-mirror.ensures.found v) in
    on_ok_weaker c.updated_of.result
    (λ e. ap (λ (o : Option Refusal). or_else o (never_updated state name)) (c.in_ok-mirror.ensures.good v) ∙ sym never ∙ e)
    c.updated_of.ensures.good

pub returns-clause-fault : goal.returns-clause-fault
returns-clause-fault c = λ v.
    let state = c.args.state.now in
    let name = c.args.name.now in
    let never = never_is state name c.in_ok-mirror.mirror.now (c.in_ok-mirror.ensures.found v) in
    err_map c.updated_of.result _ _
    (λ fault h. second_decides (unknown_mirror state.mirrors name) (never_updated state name) fault (c.in_ok-mirror.ensures.good v)
    (subst (λ (o : Option Refusal). IsFirst o fault) never h))
    c.updated_of.ensures.fault

pub returns-clause-found : goal.returns-clause-found
returns-clause-found c = λ v. IfOk-weaker c.updated_of.result _ _ (λ fetched h. fetched_is c.args.state.now c.args.name.now c.in_ok-mirror.mirror.now (c.in_ok-mirror.ensures.found v) fetched.now h) c.updated_of.ensures.found
