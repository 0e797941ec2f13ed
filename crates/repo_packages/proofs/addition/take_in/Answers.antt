use Rattle.std.proofs.Common.{◌≡◌, ◌-◌, ◌∙◌, ap, sym, length, arith}
use Rattle.package_list.specs.Lists.{union}
use Rattle.step_model.proofs.FaultLemmas.{at_exit}
use Rattle.repo_packages.proofs.JoinLemmas.{fits_own, nothing_new, taken_reply, taken_none, added_new}
use Rattle.repo_packages.proofs.addition.take_in.Goals as goal

pub returns-in_err-all-clause-fits : goal.returns-in_err-all-clause-fits
returns-in_err-all-clause-fits c = λ v f s.
    at_exit c.from_residual-in_err-all.result c.in_err-all.field-0.0 _ c.from_residual-in_err-all.ensures.1
    (c.in_err-all.ensures.fits (fits_own c.args.state.now c.args.name.now c.args.list.now c.in_ok-repo.repo.now f (c.in_ok-repo.ensures.found v)))

pub returns-then-added-eq0-clause-taken : goal.returns-then-added-eq0-clause-taken
returns-then-added-eq0-clause-taken c = λ date v f s.
    let all = ap length c.in_ok-all.ensures.same in
    let found = c.in_ok-repo.ensures.found v in
    let k = c.saturating_sub-added.result in
    let n = c.len-3.result in
    let count : k ≡ length (union c.in_ok-repo.repo.now.list c.args.list.now) - length c.in_ok-repo.repo.now.list = omega (arith, c.saturating_sub-added.ensures, c.len.ensures, c.len-2.ensures, all) in
    let none : length (union c.in_ok-repo.repo.now.list c.args.list.now) - length c.in_ok-repo.repo.now.list ≡ 0 = omega (arith, count, c.if-added-eq0.true) in
    taken_none c.args.state.now c.args.name.now c.in_ok-reply.reply c.args.list.now date
    (taken_reply c.args.state.now c.args.name.now c.in_ok-reply.reply c.args.list.now c.in_ok-repo.repo.now k n found c.in_ok-reply.ensures count (c.len-3.ensures ∙ all))
    (c.arrivals_fit.ensures.same c.args.state.now c.args.name.now c.args.list.now v (nothing_new c.args.state.now c.args.name.now c.args.list.now c.in_ok-repo.repo.now v found none))

pub returns-clause-new : goal.returns-clause-new
returns-clause-new c = λ v s e.
    let all = ap length c.in_ok-all.ensures.same in
    added_new c.args.state.now c.args.name.now c.args.list.now c.in_ok-repo.repo.now (c.in_ok-repo.ensures.found v)
    (λ none. c.if-added-eq0.false (omega (arith, none, c.saturating_sub-added.ensures, c.len.ensures, c.len-2.ensures, all)))
    (sym c.in_ok-state_with.ensures.same ∙ e)
