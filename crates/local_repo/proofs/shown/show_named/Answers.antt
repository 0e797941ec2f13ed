use Rattle.std.proofs.Common.{◌∙◌, ap, None}
use Rattle.reply_text.specs.Replies.{repo_show}
use Rattle.step_model.proofs.FaultLemmas.{at_exit, fault_first}
use Rattle.local_repo.specs.Cases.{repo_case}
use Rattle.local_repo.proofs.CaseLemmas.{shown_comes}
use Rattle.local_repo.proofs.shown.show_named.Goals as goal

pub returns-in_err-repo-clause-fault : goal.returns-in_err-repo-clause-fault
unfolding repo_case
returns-in_err-repo-clause-fault c = λ arrived v.
    let fault = c.in_err-repo.field-0.0 in
    at_exit c.from_residual.result fault _ c.from_residual.ensures.1 (fault_first None _ arrived fault (c.in_err-repo.ensures.fault v))

pub returns-clause-ok : goal.returns-clause-ok
unfolding repo_case
returns-clause-ok c = λ arrived v.
    shown_comes c.args.state.now c.args.with_packages.now c.args.name.now c.in_ok-reply.reply c.in_ok-repo.repo.now arrived (c.in_ok-repo.ensures.good v)
    (c.in_ok-repo.ensures.found v) (c.in_ok-reply.ensures ∙ ap (repo_show c.in_ok-repo.repo.now) c.unwrap_or.ensures)
