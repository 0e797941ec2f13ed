use Rattle.std.proofs.Common.{◌∙◌, Bool, ap}
use Rattle.std.proofs.lemmas.Result.{IfOk-weaker}
use Rattle.step_model.proofs.FaultLemmas.{err_map, fault_map}
use Rattle.snapshot_pull.specs.Pulls.{became}
use Rattle.snapshot_pull.proofs.onto.became.Goals as goal

pub returns-then-dry_run-clause-comes : goal.returns-then-dry_run-clause-comes
returns-then-dry_run-clause-comes c = λ base v came went.
    IfOk-weaker c.told.result _ _
    (λ told h. ap (λ (d : Bool). became c.args.state.now d c.args.destination base c.args.change.list) c.if-dry_run.true ∙ h)
    (c.told.ensures.comes base c.args.destination came went)

pub returns-then-dry_run-clause-fault : goal.returns-then-dry_run-clause-fault
returns-then-dry_run-clause-fault c = λ base came went.
    err_map c.told.result _ _
    (λ fault h. fault_map _ _ fault (λ refusal e. ap (λ (d : Bool). became c.args.state.now d c.args.destination base c.args.change.list) c.if-dry_run.true ∙ e) h)
    (c.told.ensures.fault base c.args.destination)

pub returns-then-dry_run-clause-new : goal.returns-then-dry_run-clause-new
returns-then-dry_run-clause-new c = λ free v. c.told.ensures.new

pub returns-clause-comes : goal.returns-clause-comes
returns-clause-comes c = λ base v came went.
    IfOk-weaker c.kept.result _ _
    (λ told h. ap (λ (d : Bool). became c.args.state.now d c.args.destination base c.args.change.list) c.if-dry_run.false ∙ h)
    (c.kept.ensures.comes base v came went)

pub returns-clause-fault : goal.returns-clause-fault
returns-clause-fault c = λ base came went.
    err_map c.kept.result _ _
    (λ fault h. fault_map _ _ fault (λ refusal e. ap (λ (d : Bool). became c.args.state.now d c.args.destination base c.args.change.list) c.if-dry_run.false ∙ e) h)
    (c.kept.ensures.fault base came went)
