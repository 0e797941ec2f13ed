use Rattle.std.proofs.Common.{◌≡◌, ◌∙◌, List, Ok, map, subst, sym}
use Rattle.query_tree.specs.Tree.{Tree}
use Rattle.query_grammar.specs.Said.{query_of}
use Rattle.std.proofs.lemmas.Result.{IfOk-weaker}
use Rattle.command_value.specs.Plain.{plain_follow}
use Rattle.package_choice.specs.Choice.{bad_follow}
use Rattle.step_model.specs.Names.{bad_name}
use Rattle.step_model.proofs.AskingLemmas.{asking_comes, first_told, queries_told, refused_told}
use Rattle.step_model.proofs.FaultLemmas.{at_exit, err_map, fault_map, keeps_exit}
use Rattle.snapshot_ops.specs.Cases.{bad_filter, chosen_for, taken, unknown}
use Rattle.snapshot_ops.proofs.CaseLemmas.{asking_told, first_none, second_none}
use Rattle.snapshot_ops.proofs.NewLemmas.{chosen_as, created_as, free_as}
use Rattle.snapshot_ops.proofs.filtering.filter_chosen.Goals as goal

pub returns-in_err-snapshot-clause-fault : goal.returns-in_err-snapshot-clause-fault
returns-in_err-snapshot-clause-fault g c = λ arrived v.
    let fault = c.in_err-snapshot.field-0.0 in
    at_exit c.from_residual.result fault _ c.from_residual.ensures.1
    (refused_told _ _ _ _ arrived fault (first_told (bad_filter c.args.state.now (plain_follow c.args.follow.now) c.args.source.now c.args.destination.now) c.args.queries.now _ _ _ _ fault (c.in_err-snapshot.ensures.fault v)))

pub returns-in_err-asked-clause-fault : goal.returns-in_err-asked-clause-fault
returns-in_err-asked-clause-fault g c = λ arrived v.
    let fault = c.in_err-asked.field-0.0 in
    at_exit c.from_residual-in_err-asked.result fault _ c.from_residual-in_err-asked.ensures.1
    (refused_told _ _ _ _ arrived fault (queries_told (bad_filter c.args.state.now (plain_follow c.args.follow.now) c.args.source.now c.args.destination.now) c.args.queries.now _ _ _ _ fault (c.in_ok-snapshot.ensures.good v) c.in_err-asked.ensures.fault))

pub returns-in_err-asked-clause-kept : goal.returns-in_err-asked-clause-kept
returns-in_err-asked-clause-kept g c = keeps_exit _ _ c.from_residual-in_err-asked.result c.in_err-asked.field-0.0 c.from_residual-in_err-asked.ensures.1 c.in_err-asked.ensures.kept

pub returns-clause-ok : goal.returns-clause-ok
returns-clause-ok g c = λ arrived v.
    let state = c.args.state.now in
    let follow = plain_follow c.args.follow.now in
    let source = c.args.source.now in
    let to = c.args.destination.now in
    let queries = c.args.queries.now in
    let e = c.in_ok-snapshot.ensures in
    let asked = subst (λ (l : List Tree). map query_of queries ≡ map Ok l) (sym c.deref.ensures.value) c.in_ok-asked.ensures.same in
    let list = chosen_as state c.args.with_deps.now follow source queries _ c.in_ok-list.list (e.found v) (c.in_ok-list.ensures queries asked) in
    IfOk-weaker c.created.result _ _
    (λ change h. asking_comes (bad_filter state follow source to) queries _ arrived _ (e.good v) c.in_ok-asked.ensures.good (created_as state c.in_ok-snapshot.name to c.in_ok-list.list (chosen_for state c.args.with_deps.now follow source queries) e.name list ∙ h))
    (c.created.ensures.comes v)

pub returns-clause-fault : goal.returns-clause-fault
returns-clause-fault g c = λ arrived v.
    let state = c.args.state.now in
    let follow = plain_follow c.args.follow.now in
    let source = c.args.source.now in
    let to = c.args.destination.now in
    let queries = c.args.queries.now in
    let e = c.in_ok-snapshot.ensures in
    let asked = subst (λ (l : List Tree). map query_of queries ≡ map Ok l) (sym c.deref.ensures.value) c.in_ok-asked.ensures.same in
    let list = chosen_as state c.args.with_deps.now follow source queries _ c.in_ok-list.list (e.found v) (c.in_ok-list.ensures queries asked) in
    err_map c.created.result _ _
    (λ fault h. asking_told (bad_filter state follow source to) queries _ _ _ _ arrived fault (e.good v) c.in_ok-asked.ensures.good
    (fault_map _ _ fault (λ refusal r. created_as state c.in_ok-snapshot.name to c.in_ok-list.list (chosen_for state c.args.with_deps.now follow source queries) e.name list ∙ r) h))
    c.created.ensures.fault

pub returns-clause-new : goal.returns-clause-new
returns-clause-new g c = λ v.
    let state = c.args.state.now in
    let source = c.args.source.now in
    let to = c.args.destination.now in
    let e = c.in_ok-snapshot.ensures in
    let free = first_none (taken state.snapshots to) (unknown state.snapshots source) (second_none (bad_name to) _ (second_none (bad_name source) _ (second_none (bad_follow (plain_follow c.args.follow.now)) _ (e.good v)))) in
    c.created.ensures.new (free_as state c.in_ok-snapshot.name to e.name free) v
