use Rattle.std.proofs.Common.{sym, subst}
use Rattle.std.proofs.lemmas.Result.{IfOk-weaker}
use Rattle.command_words.specs.Plain.{plain}
use Rattle.reply_text.specs.Refusals.{refusal_line}
use Rattle.step_model.specs.Answers.{FaultIs, IsRefusedFor, KeepsBut, Told}
use Rattle.step_model.proofs.StepLemmas.{step_comes, step_refused}
use Rattle.machine_step.specs.declared.outcome.Outcome.{Outcome as Made}
use Rattle.machine_step.specs.Answers.{seen, KeepsUnlessTold}
use Rattle.machine_step.specs.Step.{case_of, StepWith}
use Rattle.machine_step.proofs.FamilyLemmas.{keeps_told}
use Rattle.machine_step.proofs.steps.step_at.Goals as goal

pub returns-in-Ok-clause-step : goal.returns-in-Ok-clause-step
returns-in-Ok-clause-step g c = λ inbox large v may.
    let w = c.in-Ok.ensures.ok c.args.now.now inbox large v may in
    (w.0, w.1, step_comes refusal_line w.0 c.args.state.now (case_of c.args.now.now c.args.state.now (plain c.args.command.now)) c.args.arrived c.in-Ok.change w.2)

pub returns-in-Err-Refused-clause-step : goal.returns-in-Err-Refused-clause-step
returns-in-Err-Refused-clause-step g c = λ inbox large v may.
    let s = c.args.state.now in
    let case = case_of c.args.now.now s (plain c.args.command.now) in
    let w = subst (FaultIs (λ refusal. Told (g.M.Patterns.refusals c.args.patterns.now) (g.M.Patterns.refusals c.change_of.new.patterns) (g.M.Patterns.refused c.change_of.new.patterns) (λ large. IsRefusedFor large case c.args.arrived refusal)))
    c.in-Err-Refused.field-0-is (c.in-Err-Refused.ensures.fault c.args.now.now inbox large v may) in
    IfOk-weaker c.refused.result _ _
    (λ outcome e. (w.0, w.1, subst (λ (o : Made). StepWith c.args.now.now w.0 s (plain c.args.command.now) c.args.arrived (seen s o)) (sym e) (step_refused refusal_line w.0 s case c.args.arrived c.in-Err-Refused.refusal w.2)))
    c.refused.ensures

pub returns-in-Err-Refused-clause-untold : goal.returns-in-Err-Refused-clause-untold
returns-in-Err-Refused-clause-untold g c =
    let old = g.M.Patterns.refused c.args.patterns.now in
    let new = g.M.Patterns.refused c.change_of.new.patterns in
    IfOk-weaker c.refused.result _ _
    (λ outcome e. subst (λ (o : Made). KeepsUnlessTold old new o.refusal) (sym e) (keeps_told old new c.in-Err-Refused.refusal (subst (KeepsBut old new) c.in-Err-Refused.field-0-is c.in-Err-Refused.ensures.kept)))
    c.refused.ensures

pub returns-in-Ok-clause-changed : goal.returns-in-Ok-clause-changed
returns-in-Ok-clause-changed g c = λ inbox large v may. c.in-Ok.ensures.new c.args.now.now inbox large v may
