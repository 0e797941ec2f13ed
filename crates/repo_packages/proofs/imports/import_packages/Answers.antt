use Rattle.std.proofs.Common.{◌≡◌, ◌∙◌, List, Ok, map, subst, sym}
use Rattle.query_tree.specs.Tree.{Tree}
use Rattle.query_grammar.specs.Said.{query_of}
use Rattle.std.proofs.lemmas.Result.{IfOk-weaker}
use Rattle.command_value.specs.Plain.{plain_follow}
use Rattle.step_model.proofs.AskingLemmas.{refused_told}
use Rattle.step_model.proofs.FaultLemmas.{at_exit, err_map, keeps_exit}
use Rattle.repo_packages.specs.PackageCases.{importing}
use Rattle.repo_packages.proofs.ImportLemmas.{import_comes, import_first, import_late, import_refused, import_told, imported_is}
use Rattle.repo_packages.proofs.imports.import_packages.Goals as goal

pub returns-in_err-from-clause-fault : goal.returns-in_err-from-clause-fault
returns-in_err-from-clause-fault g c = λ arrived v.
    let fault = c.in_err-from.field-0.0 in
    at_exit c.from_residual.result fault _ c.from_residual.ensures.1
    (refused_told _ _ _ _ arrived fault (import_first c.args.state.now c.args.dry_run.now c.args.with_deps.now (plain_follow c.args.follow.now) c.args.mirror.now c.args.repo.now c.args.queries.now _ _ _ fault (c.in_err-from.ensures.fault v)))

pub returns-in_err-asked-clause-fault : goal.returns-in_err-asked-clause-fault
returns-in_err-asked-clause-fault g c = λ arrived v.
    let fault = c.in_err-asked.field-0.0 in
    at_exit c.from_residual-in_err-asked.result fault _ c.from_residual-in_err-asked.ensures.1
    (refused_told _ _ _ _ arrived fault
    (import_told c.args.state.now c.args.dry_run.now c.args.with_deps.now (plain_follow c.args.follow.now) c.args.mirror.now c.args.repo.now c.args.queries.now (c.in_ok-from.ensures.good v) _ _ _ fault c.in_err-asked.ensures.fault))

pub returns-in_err-asked-clause-kept : goal.returns-in_err-asked-clause-kept
returns-in_err-asked-clause-kept g c = keeps_exit _ _ c.from_residual-in_err-asked.result c.in_err-asked.field-0.0 c.from_residual-in_err-asked.ensures.1 c.in_err-asked.ensures.kept

pub returns-in_err-fetched-clause-fault : goal.returns-in_err-fetched-clause-fault
returns-in_err-fetched-clause-fault g c = λ arrived v.
    let fault = c.in_err-fetched.field-0.0 in
    let e = c.in_ok-from.ensures in
    at_exit c.from_residual-in_err-fetched.result fault _ c.from_residual-in_err-fetched.ensures.1
    (refused_told _ _ _ _ arrived fault
    (import_late c.args.state.now c.args.dry_run.now c.args.with_deps.now (plain_follow c.args.follow.now) c.args.mirror.now c.args.repo.now c.args.queries.now (e.good v) c.in_ok-asked.ensures.good c.in_ok-from.from.now (e.mirror v) _ _ _ fault c.in_err-fetched.ensures.fault))

pub returns-clause-ok : goal.returns-clause-ok
returns-clause-ok g c = λ arrived v.
    let state = c.args.state.now in
    let follow = plain_follow c.args.follow.now in
    let mirror = c.args.mirror.now in
    let to = c.args.repo.now in
    let queries = c.args.queries.now in
    let e = c.in_ok-from.ensures in
    let trees = subst (λ (l : List Tree). map query_of c.args.queries.now ≡ map Ok l) (sym c.deref.ensures.value) c.in_ok-asked.ensures.same in
    let chose = imported_is state c.args.with_deps.now follow mirror c.in_ok-from.from.now c.in_ok-fetched.fetched.now queries c.in_ok-more.more (e.mirror v) c.in_ok-fetched.ensures.found (c.in_ok-more.ensures queries trees) in
    IfOk-weaker c.copied.result _ _
    (λ change h.
    import_comes state c.args.dry_run.now c.args.with_deps.now follow mirror to queries (e.good v) c.in_ok-asked.ensures.good c.in_ok-from.from.now (e.mirror v) c.in_ok-fetched.ensures.good arrived _
    ((λ i. importing state (sym c.unwrap_or.ensures i) to (sym chose i)) ∙ h))
    (c.copied.ensures.comes to v (e.repo v))

pub returns-clause-fault : goal.returns-clause-fault
returns-clause-fault g c = λ arrived v.
    let state = c.args.state.now in
    let follow = plain_follow c.args.follow.now in
    let mirror = c.args.mirror.now in
    let queries = c.args.queries.now in
    let e = c.in_ok-from.ensures in
    let trees = subst (λ (l : List Tree). map query_of c.args.queries.now ≡ map Ok l) (sym c.deref.ensures.value) c.in_ok-asked.ensures.same in
    let chose = imported_is state c.args.with_deps.now follow mirror c.in_ok-from.from.now c.in_ok-fetched.fetched.now queries c.in_ok-more.more (e.mirror v) c.in_ok-fetched.ensures.found (c.in_ok-more.ensures queries trees) in
    err_map c.copied.result _ _
    (λ fault h.
    import_refused state c.args.dry_run.now c.args.with_deps.now follow mirror c.args.repo.now queries (e.good v) c.in_ok-asked.ensures.good c.in_ok-from.from.now (e.mirror v) c.in_ok-fetched.ensures.good _ _ _ arrived fault c.in_ok-from.to.now c.in_ok-more.more (e.repo v) chose h)
    c.copied.ensures.fault

pub returns-clause-new : goal.returns-clause-new
returns-clause-new g c = λ v. c.copied.ensures.new c.args.repo.now v (c.in_ok-from.ensures.repo v)
