use Rattle.std.proofs.Common.{◌≡◌, ◌∙◌, ap, sym, None}
use Rattle.std.proofs.lemmas.Result.{IfOk-weaker}
use Rattle.step_model.specs.Names.{bad_name}
use Rattle.step_model.proofs.FaultLemmas.{at_exit, err_map, fault_first, fault_map}
use Rattle.mirror_lists.specs.Mirrors.{fetched_list_in, fetched_list_of}
use Rattle.snapshot_ops.specs.Cases.{bad_fetched, taken}
use Rattle.snapshot_ops.proofs.CaseLemmas.{first_none, plain_comes, plain_refused, second_none}
use Rattle.snapshot_ops.proofs.NewLemmas.{created_as, free_as}
use Rattle.snapshot_ops.proofs.creation.create_fetched.Goals as goal

pub returns-in_err-name-clause-fault : goal.returns-in_err-name-clause-fault
returns-in_err-name-clause-fault c = λ arrived v.
    let fault = c.in_err-name.field-0.0 in
    at_exit c.from_residual.result fault _ c.from_residual.ensures.1 (fault_first None _ arrived fault (c.in_err-name.ensures.fault v))

pub returns-clause-ok : goal.returns-clause-ok
returns-clause-ok c = λ arrived v.
    let state = c.args.state.now in
    let text = c.args.name.now in
    let mirror = c.args.mirror.now in
    let e = c.in_ok-name.ensures in
    let list : c.in_ok-list.list ≡ fetched_list_of state mirror = c.in_ok-list.ensures ∙ sym (ap fetched_list_in (e.found v)) in
    IfOk-weaker c.created.result _ _
    (λ change h. plain_comes (bad_fetched state text mirror) _ (e.good v) arrived _ (created_as state c.in_ok-name.name text c.in_ok-list.list (fetched_list_of state mirror) e.name list ∙ h))
    (c.created.ensures.comes v)

pub returns-clause-fault : goal.returns-clause-fault
returns-clause-fault c = λ arrived v.
    let state = c.args.state.now in
    let text = c.args.name.now in
    let mirror = c.args.mirror.now in
    let e = c.in_ok-name.ensures in
    let list : c.in_ok-list.list ≡ fetched_list_of state mirror = c.in_ok-list.ensures ∙ sym (ap fetched_list_in (e.found v)) in
    err_map c.created.result _ _
    (λ fault h. plain_refused (bad_fetched state text mirror) _ (e.good v) arrived fault
    (fault_map _ _ fault (λ refusal r. created_as state c.in_ok-name.name text c.in_ok-list.list (fetched_list_of state mirror) e.name list ∙ r) h))
    c.created.ensures.fault

pub returns-clause-new : goal.returns-clause-new
returns-clause-new c = λ v.
    let state = c.args.state.now in
    let text = c.args.name.now in
    let mirror = c.args.mirror.now in
    let e = c.in_ok-name.ensures in
    let free = first_none (taken state.snapshots text) _ (second_none (bad_name mirror) _ (second_none (bad_name text) _ (e.good v))) in
    c.created.ensures.new (free_as state c.in_ok-name.name text e.name free) v
