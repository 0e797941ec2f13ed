use Rattle.std.proofs.Common.{◌∙◌, ap, sym}
use Rattle.std.proofs.lemmas.Result.{IfOk-weaker}
use Rattle.machine_state.specs.Values.{MirrorView}
use Rattle.step_model.proofs.AskingLemmas.{asking_comes, first_told, queries_told, refused_told}
use Rattle.step_model.proofs.FaultLemmas.{at_exit, err_map, fault_map, keeps_exit}
use Rattle.step_model.proofs.OwnLemmas.{second_none}
use Rattle.mirror_ops.specs.Cases.{created, taken}
use Rattle.mirror_ops.specs.Settings.{asked, filtered}
use Rattle.mirror_ops.proofs.CaseLemmas.{asking_told}
use Rattle.mirror_ops.proofs.creation.create_with.Goals as goal

pub returns-in_err-bare-clause-fault : goal.returns-in_err-bare-clause-fault
returns-in_err-bare-clause-fault g c = λ arrived v.
    let fault = c.in_err-bare.field-0.0 in
    at_exit c.from_residual.result fault _ c.from_residual.ensures.1
    (refused_told _ _ _ _ arrived fault (first_told _ (asked c.args.filter.now) _ _ _ _ fault (c.in_err-bare.ensures.fault v)))

pub returns-in_err-filter-clause-fault : goal.returns-in_err-filter-clause-fault
returns-in_err-filter-clause-fault g c = λ arrived v.
    let fault = c.in_err-filter.field-0.0 in
    at_exit c.from_residual-in_err-filter.result fault _ c.from_residual-in_err-filter.ensures.1
    (refused_told _ _ _ _ arrived fault (queries_told _ (asked c.args.filter.now) _ _ _ _ fault (c.in_ok-bare.ensures.good v) c.in_err-filter.ensures.fault))

pub returns-in_err-filter-clause-kept : goal.returns-in_err-filter-clause-kept
returns-in_err-filter-clause-kept g c = keeps_exit _ _ c.from_residual-in_err-filter.result c.in_err-filter.field-0.0 c.from_residual-in_err-filter.ensures.1 c.in_err-filter.ensures.kept

pub returns-clause-ok : goal.returns-clause-ok
returns-clause-ok g c = λ arrived v.
    let state = c.args.state.now in
    let made = c.filtered.ensures c.args.filter.now c.in_ok-filter.ensures.tree ∙ ap (filtered c.args.filter.now c.args.with_deps.now) c.in_ok-bare.ensures.same in
    IfOk-weaker c.created.result _ _
    (λ change h. asking_comes _ (asked c.args.filter.now) _ arrived _ (c.in_ok-bare.ensures.good v) c.in_ok-filter.ensures.good (ap (created state) (sym made) ∙ h))
    (c.created.ensures.comes v)

pub returns-clause-fault : goal.returns-clause-fault
returns-clause-fault g c = λ arrived v.
    let state = c.args.state.now in
    let made = c.filtered.ensures c.args.filter.now c.in_ok-filter.ensures.tree ∙ ap (filtered c.args.filter.now c.args.with_deps.now) c.in_ok-bare.ensures.same in
    err_map c.created.result _ _
    (λ fault h. asking_told _ (asked c.args.filter.now) _ _ _ _ arrived fault (c.in_ok-bare.ensures.good v) c.in_ok-filter.ensures.good (fault_map _ _ fault (λ refusal e. ap (created state) (sym made) ∙ e) h))
    c.created.ensures.fault

pub returns-clause-new : goal.returns-clause-new
returns-clause-new g c = λ v.
    let state = c.args.state.now in
    let made = c.filtered.ensures c.args.filter.now c.in_ok-filter.ensures.tree ∙ ap (filtered c.args.filter.now c.args.with_deps.now) c.in_ok-bare.ensures.same in
    c.created.ensures.new (ap (λ (m : MirrorView). taken state.mirrors m.name) made ∙ second_none _ (taken state.mirrors c.args.name.now) (c.in_ok-bare.ensures.good v)) v
