use Rattle.std.proofs.Common.{ℤ, to_z-of_z, subst}
use Rattle.ap_host.specs.Changes.{GoesOn}
use Rattle.command_words.specs.Plain.{plain}
use Rattle.step_model.specs.Answers.{IsTold}
use Rattle.machine_step.specs.Step.{giving}
use Rattle.aptly_core.specs.Runs.{RunsOne}
use Rattle.aptly_core.proofs.run.run_one.Goals as goal

pub returns-clause-log : goal.returns-clause-log
returns-clause-log g c =
    subst (λ (n : ℤ). GoesOn (g.H.Host.log c.args.host.now) (g.H.Host.log c.run_in.new.host) (RunsOne (giving (g.I.Inbox.map c.args.inbox.now) n) (IsTold (g.M.Patterns.refusals c.args.patterns.now) (g.M.Patterns.refusals c.run_in.new.patterns) (g.M.Patterns.refused c.run_in.new.patterns)) c.args.state (plain c.args.command.now) c.args.stage.now c.run_in.new.stage c.run_in.result))
    (to_z-of_z c.ranges.now) c.run_in.ensures.log
