use Rattle.std.proofs.Common.{◌≡◌, ◌∙◌, List, ℕ, Ok, None, ap, false, map, refl, subst, sym, unwrap_or}
use Rattle.std.proofs.lemmas.Result.{IfOk-weaker}
use Rattle.step_model.specs.Names.{bad_name}
use Rattle.step_model.proofs.FaultLemmas.{at_exit, err_map, fault_first, fault_map}
use Rattle.snapshot_ops.specs.Cases.{bad_among, bad_merge, created_from, list_of, taken, unknown_among}
use Rattle.snapshot_ops.specs.Merges.{merge_of, way_of}
use Rattle.snapshot_ops.proofs.CaseLemmas.{first_none, plain_comes, plain_refused, second_none}
use Rattle.snapshot_ops.proofs.NewLemmas.{created_as, free_as}
use Rattle.snapshot_ops.proofs.merging.merge_named.Goals as goal

pub returns-in_err-name-clause-fault : goal.returns-in_err-name-clause-fault
returns-in_err-name-clause-fault c = λ arrived v.
    let fault = c.in_err-name.field-0.0 in
    at_exit c.from_residual.result fault _ c.from_residual.ensures.1 (fault_first None _ arrived fault (c.in_err-name.ensures.fault v))

pub returns-in_err-list-clause-fault : goal.returns-in_err-list-clause-fault
returns-in_err-list-clause-fault c = λ arrived v.
    let fault = c.in_err-list.field-0.0 in
    let state = c.args.state.now in
    let to = c.args.destination.now in
    let sources = c.args.sources.now in
    let e = c.in_ok-name.ensures in
    let seen : c.deref.result.now ≡ sources = c.deref.ensures.value ∙ e.sources in
    let there = second_none (taken state.snapshots to) (unknown_among state.snapshots sources) (second_none (bad_among sources) _ (second_none (bad_name to) _ (e.good v))) in
    let known = subst (λ (l : List (List ℕ)). unknown_among state.snapshots l ≡ None) (sym seen) there in
    at_exit c.from_residual-in_err-list.result fault _ c.from_residual-in_err-list.ensures.1
    (plain_refused (bad_merge state to sources) _ (e.good v) arrived fault
    (fault_map _ _ fault (λ refusal r. ap (created_from state to) ((λ i. merge_of (sym c.way_for.ensures i) (map (list_of state) (sym seen i))) ∙ r)) (c.in_err-list.ensures.fault v known)))

pub returns-clause-ok : goal.returns-clause-ok
returns-clause-ok c = λ arrived v.
    let state = c.args.state.now in
    let to = c.args.destination.now in
    let sources = c.args.sources.now in
    let e = c.in_ok-name.ensures in
    let seen : c.deref.result.now ≡ sources = c.deref.ensures.value ∙ e.sources in
    let made : merge_of (way_of (unwrap_or c.args.latest.now false) (unwrap_or c.args.no_remove.now false)) (map (list_of state) sources) ≡ Ok c.in_ok-list.list =
    (λ i. merge_of (sym c.way_for.ensures i) (map (list_of state) (sym seen i))) ∙ c.in_ok-list.ensures.good v in
    IfOk-weaker c.created.result _ _
    (λ change h. plain_comes (bad_merge state to sources) _ (e.good v) arrived _ (ap (created_from state to) made ∙ created_as state c.in_ok-name.name to c.in_ok-list.list c.in_ok-list.list e.name refl ∙ h))
    (c.created.ensures.comes v)

pub returns-clause-fault : goal.returns-clause-fault
returns-clause-fault c = λ arrived v.
    let state = c.args.state.now in
    let to = c.args.destination.now in
    let sources = c.args.sources.now in
    let e = c.in_ok-name.ensures in
    let seen : c.deref.result.now ≡ sources = c.deref.ensures.value ∙ e.sources in
    let made : merge_of (way_of (unwrap_or c.args.latest.now false) (unwrap_or c.args.no_remove.now false)) (map (list_of state) sources) ≡ Ok c.in_ok-list.list =
    (λ i. merge_of (sym c.way_for.ensures i) (map (list_of state) (sym seen i))) ∙ c.in_ok-list.ensures.good v in
    err_map c.created.result _ _
    (λ fault h. plain_refused (bad_merge state to sources) _ (e.good v) arrived fault
    (fault_map _ _ fault (λ refusal r. ap (created_from state to) made ∙ created_as state c.in_ok-name.name to c.in_ok-list.list c.in_ok-list.list e.name refl ∙ r) h))
    c.created.ensures.fault

pub returns-clause-new : goal.returns-clause-new
returns-clause-new c = λ v.
    let state = c.args.state.now in
    let to = c.args.destination.now in
    let sources = c.args.sources.now in
    let e = c.in_ok-name.ensures in
    let free = first_none (taken state.snapshots to) (unknown_among state.snapshots sources) (second_none (bad_among sources) _ (second_none (bad_name to) _ (e.good v))) in
    c.created.ensures.new (free_as state c.in_ok-name.name to e.name free) v
