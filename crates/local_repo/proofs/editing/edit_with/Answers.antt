use Rattle.std.proofs.Common.{None}
use Rattle.std.proofs.lemmas.Result.{IfOk-weaker}
use Rattle.step_model.proofs.FaultLemmas.{at_exit, fault_first}
use Rattle.local_repo.proofs.NameLemmas.{edited_comes, found_still}
use Rattle.local_repo.proofs.editing.edit_with.Goals as goal

pub returns-in_err-repo-clause-fault : goal.returns-in_err-repo-clause-fault
returns-in_err-repo-clause-fault c = λ arrived v.
    let fault = c.in_err-repo.field-0.0 in
    at_exit c.from_residual.result fault _ c.from_residual.ensures.1 (fault_first None _ arrived fault (c.in_err-repo.ensures.fault v))

pub returns-clause-ok : goal.returns-clause-ok
returns-clause-ok c = λ arrived v.
    let state = c.args.state.now in
    let comment = c.args.comment.now in
    let distribution = c.args.distribution.now in
    let component = c.args.component.now in
    let found = c.in_ok-repo.ensures.found v in
    let is = c.in_ok-made.ensures.same in
    let still = found_still state comment distribution component c.in_ok-repo.repo.now c.in_ok-made.made is c.args.name.now found in
    IfOk-weaker c.put_back.result _ _
    (λ change e. edited_comes state comment distribution component c.in_ok-repo.repo.now c.in_ok-made.made is c.args.name.now change arrived (c.in_ok-repo.ensures.good v) found e)
    (c.put_back.ensures.same comment distribution component v still is)

pub returns-clause-new : goal.returns-clause-new
returns-clause-new c = λ v.
    let is = c.in_ok-made.ensures.same in
    c.put_back.ensures.new c.args.comment.now c.args.distribution.now c.args.component.now v
    (found_still c.args.state.now c.args.comment.now c.args.distribution.now c.args.component.now c.in_ok-repo.repo.now c.in_ok-made.made is c.args.name.now (c.in_ok-repo.ensures.found v)) is
