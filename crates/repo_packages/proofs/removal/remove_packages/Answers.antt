use Rattle.std.proofs.Common.{◌≡◌, ◌∙◌, List, Ok, map, subst, sym}
use Rattle.query_tree.specs.Tree.{Tree}
use Rattle.query_grammar.specs.Said.{query_of}
use Rattle.std.proofs.lemmas.Result.{IfOk-weaker}
use Rattle.step_model.proofs.AskingLemmas.{asking_comes, first_told, queries_told, refused_told}
use Rattle.step_model.proofs.FaultLemmas.{at_exit, err_map, fault_memory, keeps_exit}
use Rattle.repo_packages.specs.PackageCases.{bad_repo, removal, removal_case}
use Rattle.repo_packages.proofs.PairLemmas.{chose_is}
use Rattle.repo_packages.proofs.removal.remove_packages.Goals as goal

pub returns-in_err-repo-clause-fault : goal.returns-in_err-repo-clause-fault
unfolding removal_case
returns-in_err-repo-clause-fault g c = λ arrived v.
    let fault = c.in_err-repo.field-0.0 in
    at_exit c.from_residual.result fault _ c.from_residual.ensures.1 (refused_told _ _ _ _ arrived fault (first_told (bad_repo c.args.state.now c.args.name.now) c.args.queries.now _ _ _ _ fault (c.in_err-repo.ensures.fault v)))

pub returns-in_err-asked-clause-fault : goal.returns-in_err-asked-clause-fault
unfolding removal_case
returns-in_err-asked-clause-fault g c = λ arrived v.
    let fault = c.in_err-asked.field-0.0 in
    at_exit c.from_residual-in_err-asked.result fault _ c.from_residual-in_err-asked.ensures.1
    (refused_told _ _ _ _ arrived fault (queries_told (bad_repo c.args.state.now c.args.name.now) c.args.queries.now _ _ _ _ fault (c.in_ok-repo.ensures.good v) c.in_err-asked.ensures.fault))

pub returns-in_err-asked-clause-kept : goal.returns-in_err-asked-clause-kept
returns-in_err-asked-clause-kept g c = keeps_exit _ _ c.from_residual-in_err-asked.result c.in_err-asked.field-0.0 c.from_residual-in_err-asked.ensures.1 c.in_err-asked.ensures.kept

pub returns-clause-ok : goal.returns-clause-ok
unfolding removal_case
returns-clause-ok g c = λ arrived v.
    let state = c.args.state.now in
    let name = c.args.name.now in
    let queries = c.args.queries.now in
    let found = c.in_ok-repo.ensures.found v in
    let chose = c.in_ok-gone.ensures queries (subst (λ (l : List Tree). map query_of c.args.queries.now ≡ map Ok l) (sym c.deref.ensures.value) c.in_ok-asked.ensures.same) in
    IfOk-weaker c.removed.result _ _
    (λ change e.
    asking_comes (bad_repo state name) queries _ arrived _ (c.in_ok-repo.ensures.good v) c.in_ok-asked.ensures.good
    ((λ i. removal state (sym c.unwrap_or.ensures i) name (sym (chose_is state name c.in_ok-repo.repo.now queries c.in_ok-gone.gone found chose) i)) ∙ e))
    (c.removed.ensures.comes name v found)

pub returns-clause-fault : goal.returns-clause-fault
returns-clause-fault g c = λ arrived v. err_map c.removed.result _ _ (λ fault h. fault_memory _ fault h) c.removed.ensures.fault

pub returns-clause-new : goal.returns-clause-new
returns-clause-new g c = λ v. c.removed.ensures.new c.args.name.now c.args.queries.now v (c.in_ok-repo.ensures.found v) (c.in_ok-gone.ensures c.args.queries.now (subst (λ (l : List Tree). map query_of c.args.queries.now ≡ map Ok l) (sym c.deref.ensures.value) c.in_ok-asked.ensures.same))
