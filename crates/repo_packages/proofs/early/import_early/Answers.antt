use Rattle.command_value.specs.Plain.{plain_follow}
use Rattle.step_model.proofs.FaultLemmas.{at_exit, err_map, first_decides, second_decides}
use Rattle.package_choice.specs.Choice.{bad_follow}
use Rattle.repo_packages.specs.PackageCases.{bad_places}
use Rattle.repo_packages.proofs.early.import_early.Goals as goal

pub returns-in_err-check_follow-clause-fault : goal.returns-in_err-check_follow-clause-fault
returns-in_err-check_follow-clause-fault c = λ v.
    let fault = c.in_err-check_follow.field-0.0 in
    at_exit c.from_residual.result fault _ c.from_residual.ensures.1
    (first_decides (bad_follow (plain_follow c.args.follow.now)) (bad_places c.args.state.now c.args.mirror.now c.args.repo.now) fault c.in_err-check_follow.ensures.fault)

pub returns-clause-fault : goal.returns-clause-fault
returns-clause-fault c = λ v.
    err_map c.named_places.result _ _
    (λ fault h. second_decides (bad_follow (plain_follow c.args.follow.now)) (bad_places c.args.state.now c.args.mirror.now c.args.repo.now) fault c.in_ok-check_follow.ensures.good h)
    (c.named_places.ensures.fault v)
