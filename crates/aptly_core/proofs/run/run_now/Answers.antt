use Rattle.std.proofs.Common.{ℤ, to_z-of_z, map, subst}
use Rattle.ap_host.specs.Changes.{GoesOn}
use Rattle.command_words.specs.Plain.{plain}
use Rattle.step_model.specs.Answers.{IsTold}
use Rattle.machine_step.specs.Step.{giving}
use Rattle.aptly_core.specs.Calls.{Called}
use Rattle.aptly_core.specs.Runs.{EndsFrom}
use Rattle.aptly_core.proofs.run.run_now.Goals as goal

pub returns-clause-log : goal.returns-clause-log
returns-clause-log g c =
    subst (λ (n : ℤ). GoesOn (g.H.Host.log c.args.host.now) (g.H.Host.log c.run_commands.new.host) (Called (giving (g.I.Inbox.map c.args.inbox.now) n) (IsTold (g.M.Patterns.refusals c.args.patterns.now) (g.M.Patterns.refusals c.run_commands.new.patterns) (g.M.Patterns.refused c.run_commands.new.patterns)) (map plain c.args.commands.now) c.run_commands.result)) (to_z-of_z c.ranges.now) c.run_commands.ensures.log

pub returns-clause-ended : goal.returns-clause-ended
returns-clause-ended g c end =
    subst (λ (n : ℤ). EndsFrom (giving (g.I.Inbox.map c.args.inbox.now) n) (IsTold (g.M.Patterns.refusals c.args.patterns.now) (g.M.Patterns.refusals c.run_commands.new.patterns) (g.M.Patterns.refused c.run_commands.new.patterns)) (map plain c.args.commands.now) c.run_commands.result) (to_z-of_z c.ranges.now) (c.run_commands.ensures.ended end)
