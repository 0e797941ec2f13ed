use Rattle.std.proofs.Common.{◌∙◌}
use Rattle.step_model.specs.Case.{changes}
use Rattle.step_model.proofs.FaultLemmas.{at_exit}
use Rattle.package_list.specs.Lists.{without}
use Rattle.reply_text.specs.DryRuns.{dry_run_of}
use Rattle.snapshot_pull.proofs.PullLemmas.{told_so}
use Rattle.snapshot_pull.proofs.onto.told.Goals as goal

pub returns-in_err-room-clause-fault : goal.returns-in_err-room-clause-fault
returns-in_err-room-clause-fault c = λ base destination.
    let list = c.args.change.now.list in
    at_exit c.from_residual.result c.in_err-room.field-0.0 _ c.from_residual.ensures.1
    (c.in_err-room.ensures.fault (changes (dry_run_of (without base list) (without list base)) c.args.state.now))

pub returns-clause-comes : goal.returns-clause-comes
returns-clause-comes c = λ base destination came went.
    let change = c.args.change.now in
    c.in_ok-room.ensures.good (changes (dry_run_of (without base change.list) (without change.list base)) c.args.state.now)
    ∙ told_so c.args.state.now destination base change.list change.added change.removed came went c.in_ok-reply.reply c.in_ok-reply.ensures
