use Rattle.command_value.specs.Plain.{plain_follow}
use Rattle.package_choice.specs.Choice.{bad_follow}
use Rattle.step_model.proofs.FaultLemmas.{at_exit, err_map, first_decides, second_decides}
use Rattle.snapshot_pull.proofs.PullLemmas.{both_none, on_any}
use Rattle.snapshot_ops.specs.Cases.{bad_snapshot}
use Rattle.snapshot_ops.proofs.early.search_early.Goals as goal

pub returns-in_err-check_follow-clause-fault : goal.returns-in_err-check_follow-clause-fault
returns-in_err-check_follow-clause-fault c = λ v.
    let fault = c.in_err-check_follow.field-0.0 in
    at_exit c.from_residual.result fault _ c.from_residual.ensures.1
    (first_decides (bad_follow (plain_follow c.args.follow.now)) (bad_snapshot c.args.state.now c.args.text.now) fault c.in_err-check_follow.ensures.fault)

pub returns-clause-good : goal.returns-clause-good
returns-clause-good c = λ v.
    both_none c.named_snapshot.result (bad_follow (plain_follow c.args.follow.now)) (bad_snapshot c.args.state.now c.args.text.now) c.in_ok-check_follow.ensures.good (c.named_snapshot.ensures.good v)

pub returns-clause-fault : goal.returns-clause-fault
returns-clause-fault c = λ v.
    err_map c.named_snapshot.result _ _
    (λ fault h. second_decides (bad_follow (plain_follow c.args.follow.now)) (bad_snapshot c.args.state.now c.args.text.now) fault c.in_ok-check_follow.ensures.good h)
    (c.named_snapshot.ensures.fault v)

pub returns-clause-listed : goal.returns-clause-listed
returns-clause-listed c = on_any c.named_snapshot.result c.in_ok-check_follow.ensures.good
