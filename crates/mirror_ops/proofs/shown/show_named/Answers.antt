use Rattle.std.proofs.Common.{◌∙◌, ap, sym, None, List, ℕ, false, unwrap_or}
use Rattle.reply_text.specs.Mirrors.{mirror_show}
use Rattle.step_model.specs.Case.{changes}
use Rattle.step_model.proofs.FaultLemmas.{at_exit, fault_first}
use Rattle.mirror_ops.specs.Cases.{bad_mirror, shown}
use Rattle.mirror_ops.proofs.CaseLemmas.{plain_comes}
use Rattle.mirror_ops.proofs.shown.show_named.Goals as goal

pub returns-in_err-mirror-clause-fault : goal.returns-in_err-mirror-clause-fault
returns-in_err-mirror-clause-fault c = λ arrived v.
    let fault = c.in_err-mirror.field-0.0 in
    at_exit c.from_residual.result fault _ c.from_residual.ensures.1 (fault_first None _ arrived fault (c.in_err-mirror.ensures.fault v))

pub returns-clause-ok : goal.returns-clause-ok
returns-clause-ok c = λ arrived v.
    let state = c.args.state.now in
    let name = c.args.name.now in
    let packages = unwrap_or c.args.with_packages.now false in
    plain_comes (bad_mirror state name) _ (c.in_ok-mirror.ensures.good v) arrived _
    (ap (shown state name packages) (c.in_ok-mirror.ensures.found v) ∙ ap (λ (t : List ℕ). changes t state) (sym (c.in_ok-reply.ensures ∙ ap (mirror_show c.in_ok-mirror.mirror.now) c.unwrap_or.ensures)))
