use Rattle.std.proofs.Common.{◌∙◌, ℕ, List, ◌∷◌, [], ap, sym}
use Rattle.command_value.specs.Plain.{plain_follow}
use Rattle.reply_text.specs.Replies.{package_search}
use Rattle.step_model.specs.Case.{changes}
use Rattle.step_model.proofs.AskingLemmas.{asking_comes, first_told, queries_told, refused_told}
use Rattle.step_model.proofs.FaultLemmas.{at_exit, keeps_exit}
use Rattle.snapshot_ops.specs.Cases.{bad_search}
use Rattle.snapshot_ops.proofs.NewLemmas.{chosen_as}
use Rattle.snapshot_ops.proofs.filtering.search_named.Goals as goal

pub returns-in_err-snapshot-clause-fault : goal.returns-in_err-snapshot-clause-fault
returns-in_err-snapshot-clause-fault g c = λ arrived v.
    let fault = c.in_err-snapshot.field-0.0 in
    at_exit c.from_residual.result fault _ c.from_residual.ensures.1
    (refused_told _ _ _ _ arrived fault (first_told (bad_search c.args.state.now (plain_follow c.args.follow.now) c.args.name.now) (c.args.query.now ∷ []) _ _ _ _ fault (c.in_err-snapshot.ensures.fault v)))

pub returns-in_err-asked-clause-fault : goal.returns-in_err-asked-clause-fault
returns-in_err-asked-clause-fault g c = λ arrived v.
    let fault = c.in_err-asked.field-0.0 in
    at_exit c.from_residual-in_err-asked.result fault _ c.from_residual-in_err-asked.ensures.1
    (refused_told _ _ _ _ arrived fault (queries_told (bad_search c.args.state.now (plain_follow c.args.follow.now) c.args.name.now) (c.args.query.now ∷ []) _ _ _ _ fault (c.in_ok-snapshot.ensures.good v) c.in_err-asked.ensures.fault))

pub returns-in_err-asked-clause-kept : goal.returns-in_err-asked-clause-kept
returns-in_err-asked-clause-kept g c = keeps_exit _ _ c.from_residual-in_err-asked.result c.in_err-asked.field-0.0 c.from_residual-in_err-asked.ensures.1 c.in_err-asked.ensures.kept

pub returns-clause-ok : goal.returns-clause-ok
returns-clause-ok g c = λ arrived v.
    let state = c.args.state.now in
    let deps = c.args.with_deps.now in
    let follow = plain_follow c.args.follow.now in
    let name = c.args.name.now in
    let query = c.args.query.now in
    let e = c.in_ok-snapshot.ensures in
    let chose = chosen_as state deps follow name (query ∷ []) _ c.in_ok-chosen.chosen (e.found v) (c.in_ok-chosen.ensures query c.in_ok-asked.ensures.same) in
    asking_comes (bad_search state follow name) (query ∷ []) _ arrived _ (e.good v) c.in_ok-asked.ensures.good
    (ap (λ (t : List ℕ). changes t state) (ap package_search (sym chose) ∙ sym c.in_ok-reply.ensures))
