use Rattle.std.proofs.Common.{◌≡◌, ◌∙◌, List, Ok, map, subst, sym, unwrap_or, false}
use Rattle.query_tree.specs.Tree.{Tree}
use Rattle.query_grammar.specs.Said.{query_of}
use Rattle.std.proofs.lemmas.Result.{IfOk-weaker}
use Rattle.command_value.specs.Plain.{plain_follow}
use Rattle.step_model.proofs.AskingLemmas.{first_told, refused_told}
use Rattle.step_model.proofs.FaultLemmas.{at_exit, err_map, keeps_exit}
use Rattle.package_choice.proofs.ChoiceLemmas.{of_the_list}
use Rattle.repo_packages.specs.PackageCases.{bad_transfer, moving, joining, move_case}
use Rattle.repo_packages.proofs.PairLemmas.{chose_for, pair_comes, pair_refused, pair_told}
use Rattle.repo_packages.proofs.pairs.move_packages.Goals as goal

pub returns-in_err-from-clause-fault : goal.returns-in_err-from-clause-fault
unfolding move_case
returns-in_err-from-clause-fault g c = λ arrived v.
    let fault = c.in_err-from.field-0.0 in
    at_exit c.from_residual.result fault _ c.from_residual.ensures.1 (refused_told _ _ _ _ arrived fault (first_told (bad_transfer c.args.state.now (plain_follow c.args.follow.now) c.args.source.now c.args.destination.now) c.args.queries.now _ _ _ _ fault (c.in_err-from.ensures.fault v)))

pub returns-in_err-asked-clause-fault : goal.returns-in_err-asked-clause-fault
unfolding move_case
returns-in_err-asked-clause-fault g c = λ arrived v.
    let fault = c.in_err-asked.field-0.0 in
    let e = c.in_ok-from.ensures in
    at_exit c.from_residual-in_err-asked.result fault _ c.from_residual-in_err-asked.ensures.1
    (refused_told _ _ _ _ arrived fault
    (pair_told c.args.state.now c.args.with_deps.now (plain_follow c.args.follow.now) c.args.source.now c.args.destination.now c.args.queries.now _ (e.good v) _ _ _ fault c.in_err-asked.ensures.fault))

pub returns-in_err-asked-clause-kept : goal.returns-in_err-asked-clause-kept
returns-in_err-asked-clause-kept g c = keeps_exit _ _ c.from_residual-in_err-asked.result c.in_err-asked.field-0.0 c.from_residual-in_err-asked.ensures.1 c.in_err-asked.ensures.kept

pub returns-clause-ok : goal.returns-clause-ok
unfolding move_case
returns-clause-ok g c = λ arrived v.
    let state = c.args.state.now in
    let source = c.args.source.now in
    let to = c.args.destination.now in
    let queries = c.args.queries.now in
    let e = c.in_ok-from.ensures in
    let chose = chose_for state c.args.with_deps.now (plain_follow c.args.follow.now) source c.in_ok-from.from.now queries c.in_ok-more.more (e.source v) (c.in_ok-more.ensures queries (subst (λ (l : List Tree). map query_of c.args.queries.now ≡ map Ok l) (sym c.deref.ensures.value) c.in_ok-asked.ensures.same)) in
    IfOk-weaker c.moved.result _ _
    (λ change h.
    pair_comes state c.args.with_deps.now (plain_follow c.args.follow.now) source to queries _ (e.good v) arrived _ c.in_ok-asked.ensures.good
    ((λ i. joining state to (sym chose i) (moving state (sym c.unwrap_or.ensures i) source to (sym chose i))) ∙ h))
    (c.moved.ensures.comes c.args.source.now c.args.destination.now v (c.in_ok-from.ensures.source v) (c.in_ok-from.ensures.destination v))

pub returns-clause-fault : goal.returns-clause-fault
unfolding move_case
returns-clause-fault g c = λ arrived v.
    let state = c.args.state.now in
    let source = c.args.source.now in
    let queries = c.args.queries.now in
    let e = c.in_ok-from.ensures in
    let chose = chose_for state c.args.with_deps.now (plain_follow c.args.follow.now) source c.in_ok-from.from.now queries c.in_ok-more.more (e.source v) (c.in_ok-more.ensures queries (subst (λ (l : List Tree). map query_of c.args.queries.now ≡ map Ok l) (sym c.deref.ensures.value) c.in_ok-asked.ensures.same)) in
    err_map c.moved.result _ _
    (λ fault h.
    pair_refused state c.args.with_deps.now (plain_follow c.args.follow.now) source c.args.destination.now queries _ (e.good v) _ _ _ arrived fault c.in_ok-from.to.now c.in_ok-more.more c.in_ok-asked.ensures.good (e.destination v) chose h)
    c.moved.ensures.fault

pub returns-clause-new : goal.returns-clause-new
returns-clause-new g c = λ v.
    let queries = c.args.queries.now in
    let chose = of_the_list (unwrap_or c.args.with_deps.now false) (plain_follow c.args.follow.now) c.in_ok-from.from.now.list queries in
    let more = c.in_ok-more.ensures queries (subst (λ (l : List Tree). map query_of c.args.queries.now ≡ map Ok l) (sym c.deref.ensures.value) c.in_ok-asked.ensures.same) in
    c.moved.ensures.new c.args.source.now c.args.destination.now chose.0 v (c.in_ok-from.ensures.source v) (c.in_ok-from.ensures.destination v) (more ∙ chose.1)
