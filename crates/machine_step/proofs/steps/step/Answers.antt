use Rattle.std.proofs.Common.{ℤ, List, ℕ, Option, to_z-of_z, sym, subst}
use Rattle.std.specs.Result.{IfOk}
use Rattle.command_words.specs.Plain.{plain}
use Rattle.step_model.specs.Answers.{Told}
use Rattle.machine_step.specs.Answers.{seen}
use Rattle.machine_step.specs.Step.{MayArrive, StepWith, giving, read_for}
use Rattle.machine_step.proofs.steps.step.Goals as goal

pub returns-clause-step : goal.returns-clause-step
returns-clause-step g c = λ inbox large v may.
    let s = c.args.state.now in
    let cmd = plain c.args.command.now in
    let same = to_z-of_z c.ranges.now in
    subst (λ (n : ℤ). IfOk c.step_at.result (λ outcome. Told (g.M.Patterns.refusals c.args.patterns.now) (g.M.Patterns.refusals c.step_at.new.patterns) (g.M.Patterns.refused c.step_at.new.patterns) (λ (text : Option (List ℕ)). StepWith n text s cmd c.args.arrived (seen s outcome))))
    same (c.step_at.ensures.step inbox large v (subst (λ (n : ℤ). MayArrive (giving inbox n) large s (read_for n s cmd) c.args.arrived) (sym same) may))

pub returns-clause-changed : goal.returns-clause-changed
returns-clause-changed g c = λ inbox large v may.
    let s = c.args.state.now in
    let cmd = plain c.args.command.now in
    c.step_at.ensures.changed inbox large v (subst (λ (n : ℤ). MayArrive (giving inbox n) large s (read_for n s cmd) c.args.arrived) (sym (to_z-of_z c.ranges.now)) may)
