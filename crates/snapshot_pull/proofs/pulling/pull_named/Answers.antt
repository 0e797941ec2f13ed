use Rattle.std.proofs.Common.{◌≡◌, ◌∙◌, List, Ok, map, subst, sym}
use Rattle.query_tree.specs.Tree.{Tree}
use Rattle.query_grammar.specs.Said.{query_of}
use Rattle.std.proofs.lemmas.Result.{IfOk-weaker}
use Rattle.command_value.specs.Plain.{plain_follow}
use Rattle.step_model.proofs.AskingLemmas.{asking_comes, first_told, queries_told, refused_told}
use Rattle.step_model.proofs.FaultLemmas.{at_exit, err_map, fault_map, keeps_exit}
use Rattle.snapshot_pull.specs.Pulls.{bad_pull, pull_case}
use Rattle.snapshot_pull.proofs.CaseLemmas.{asking_told}
use Rattle.snapshot_pull.proofs.NewLemmas.{free_as}
use Rattle.snapshot_pull.proofs.PullLemmas.{ends_free, pulled_as}
use Rattle.snapshot_pull.proofs.pulling.pull_named.Goals as goal

pub returns-in_err-base-clause-fault : goal.returns-in_err-base-clause-fault
unfolding pull_case
returns-in_err-base-clause-fault g c = λ arrived v.
    let fault = c.in_err-base.field-0.0 in
    let early = bad_pull c.args.state.now (plain_follow c.args.follow.now) c.args.name.now c.args.source.now c.args.destination.now in
    at_exit c.from_residual.result fault _ c.from_residual.ensures.1
    (refused_told _ _ _ _ arrived fault (first_told early c.args.queries.now _ _ _ _ fault (c.in_err-base.ensures.fault v)))

pub returns-in_err-asked-clause-fault : goal.returns-in_err-asked-clause-fault
unfolding pull_case
returns-in_err-asked-clause-fault g c = λ arrived v.
    let fault = c.in_err-asked.field-0.0 in
    let early = bad_pull c.args.state.now (plain_follow c.args.follow.now) c.args.name.now c.args.source.now c.args.destination.now in
    at_exit c.from_residual-in_err-asked.result fault _ c.from_residual-in_err-asked.ensures.1
    (refused_told _ _ _ _ arrived fault (queries_told early c.args.queries.now _ _ _ _ fault (c.in_ok-base.ensures.good v) c.in_err-asked.ensures.fault))

pub returns-in_err-asked-clause-kept : goal.returns-in_err-asked-clause-kept
returns-in_err-asked-clause-kept g c = keeps_exit _ _ c.from_residual-in_err-asked.result c.in_err-asked.field-0.0 c.from_residual-in_err-asked.ensures.1 c.in_err-asked.ensures.kept

pub returns-clause-ok : goal.returns-clause-ok
unfolding pull_case
returns-clause-ok g c = λ arrived v.
    let state = c.args.state.now in
    let follow = plain_follow c.args.follow.now in
    let queries = c.args.queries.now in
    let e = c.in_ok-base.ensures in
    let asked = subst (λ (l : List Tree). map query_of queries ≡ map Ok l) (sym c.deref.ensures.value) c.in_ok-asked.ensures.same in
    let same = pulled_as state _ _ c.args.flags.now follow.architectures c.args.name.now c.args.source.now c.args.destination.now queries _ _ _ c.unwrap_or-dry.ensures (e.base v) (e.source v) e.name in
    IfOk-weaker c.pull_onto.result _ _
    (λ change h. asking_comes (bad_pull state follow c.args.name.now c.args.source.now c.args.destination.now) queries _ arrived _ (e.good v) c.in_ok-asked.ensures.good (same ∙ h))
    (c.pull_onto.ensures.comes queries asked v)

pub returns-clause-fault : goal.returns-clause-fault
unfolding pull_case
returns-clause-fault g c = λ arrived v.
    let state = c.args.state.now in
    let follow = plain_follow c.args.follow.now in
    let queries = c.args.queries.now in
    let e = c.in_ok-base.ensures in
    let asked = subst (λ (l : List Tree). map query_of queries ≡ map Ok l) (sym c.deref.ensures.value) c.in_ok-asked.ensures.same in
    let same = pulled_as state _ _ c.args.flags.now follow.architectures c.args.name.now c.args.source.now c.args.destination.now queries _ _ _ c.unwrap_or-dry.ensures (e.base v) (e.source v) e.name in
    err_map c.pull_onto.result _ _
    (λ fault h. asking_told (bad_pull state follow c.args.name.now c.args.source.now c.args.destination.now) queries _ _ _ _ arrived fault (e.good v) c.in_ok-asked.ensures.good
    (fault_map _ _ fault (λ refusal r. same ∙ r) h))
    (c.pull_onto.ensures.fault queries asked)

pub returns-clause-new : goal.returns-clause-new
returns-clause-new g c = λ v.
    let state = c.args.state.now in
    let e = c.in_ok-base.ensures in
    c.pull_onto.ensures.new (free_as state _ c.args.destination.now e.name (ends_free state (plain_follow c.args.follow.now) c.args.name.now c.args.source.now c.args.destination.now (e.good v))) v
