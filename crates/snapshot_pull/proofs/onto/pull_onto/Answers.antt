use Rattle.std.proofs.Common.{◌∙◌}
use Rattle.std.proofs.lemmas.Result.{IfOk-weaker}
use Rattle.command_value.specs.Plain.{plain_follow}
use Rattle.step_model.proofs.FaultLemmas.{at_exit, err_map, fault_map}
use Rattle.snapshot_pull.proofs.PullLemmas.{onto_came, onto_refused, taken_as}
use Rattle.snapshot_pull.proofs.onto.pull_onto.Goals as goal

pub returns-in_err-change-clause-fault : goal.returns-in_err-change-clause-fault
returns-in_err-change-clause-fault c = λ queries q.
    let base = c.args.base.now in
    let source = c.args.source.now in
    let flags = c.args.flags.now in
    let fault = c.in_err-change.field-0.0 in
    let same = taken_as flags (plain_follow c.args.follow.now).architectures _ base source queries _ (c.deref.ensures.value ∙ c.in_ok-archs.ensures) q in
    at_exit c.from_residual-in_err-change.result fault _ c.from_residual-in_err-change.ensures.1
    (fault_map _ _ fault (λ refusal e. onto_refused c.args.state.now c.args.dry_run flags.remove c.args.destination base _ _ same refusal e) c.in_err-change.ensures.fault)

pub returns-clause-comes : goal.returns-clause-comes
returns-clause-comes c = λ queries q v.
    let base = c.args.base.now in
    let source = c.args.source.now in
    let flags = c.args.flags.now in
    let e = c.in_ok-change.ensures in
    let same = taken_as flags (plain_follow c.args.follow.now).architectures _ base source queries _ (c.deref.ensures.value ∙ c.in_ok-archs.ensures) q in
    IfOk-weaker c.became.result _ _
    (λ told h. onto_came c.args.state.now c.args.dry_run flags.remove c.args.destination base _ _ same c.in_ok-change.change.list e.good e.list ∙ h)
    (c.became.ensures.comes base v e.added e.removed)

pub returns-clause-fault : goal.returns-clause-fault
returns-clause-fault c = λ queries q.
    let base = c.args.base.now in
    let source = c.args.source.now in
    let flags = c.args.flags.now in
    let e = c.in_ok-change.ensures in
    let same = taken_as flags (plain_follow c.args.follow.now).architectures _ base source queries _ (c.deref.ensures.value ∙ c.in_ok-archs.ensures) q in
    err_map c.became.result _ _
    (λ fault h. fault_map _ _ fault (λ refusal r. onto_came c.args.state.now c.args.dry_run flags.remove c.args.destination base _ _ same c.in_ok-change.change.list e.good e.list ∙ r) h)
    (c.became.ensures.fault base e.added e.removed)
