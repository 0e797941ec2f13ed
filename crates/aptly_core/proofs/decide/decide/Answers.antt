use Rattle.std.proofs.Common.{Some, refl, ap, subst}
use Rattle.std.proofs.lemmas.Result.{err_from_is_err_and}
use Rattle.ap_host.proofs.ChangeLemmas.{GoesOn-map, GoesOn-none}
use Rattle.command_words.specs.Plain.{plain}
use Rattle.step_model.specs.Answers.{FaultIs, Told}
use Rattle.step_model.specs.Refuses.{Refuses}
use Rattle.machine_step.specs.Step.{case_of, giving}
use Rattle.machine_step.specs.declared.outcome.Outcome.{Outcome}
use Rattle.aptly_core.proofs.DecideLemmas.{decides_of, decides_err, decides_refused, refused_early, comes_wider}
use Rattle.aptly_core.proofs.decide.decide.Goals as goal

pub returns-in_err-refused-in-Err-Refused-clause-log : goal.returns-in_err-refused-in-Err-Refused-clause-log
returns-in_err-refused-in-Err-Refused-clause-log g c =
    let e = err_from_is_err_and c.from_residual.result c.from_residual.ensures.1 in
    GoesOn-none _ _ _ refl (λ l. decides_err _ _ _ _ _ _ e.0 e.1 l)

pub returns-in-Ok-clause-comes : goal.returns-in-Ok-clause-comes
returns-in-Ok-clause-comes g c valid = comes_wider (giving (g.I.Inbox.map c.args.inbox.now) c.args.now.now) _ _ _ _ _ _ c.decide_with.result c.need.ensures.never_falls (c.decide_with.ensures.comes valid (c.in-Ok.ensures.ok c.args.now.now valid).1)

pub returns-in-Ok-clause-changed : goal.returns-in-Ok-clause-changed
returns-in-Ok-clause-changed g c valid = c.decide_with.ensures.changed valid (c.in-Ok.ensures.ok c.args.now.now valid).1

pub returns-in-Ok-clause-log : goal.returns-in-Ok-clause-log
returns-in-Ok-clause-log g c = GoesOn-map _ _ _ _ c.decide_with.ensures.log (λ l a w. decides_of _ _ _ _ _ _ _ _ (λ valid. (c.in-Ok.ensures.ok c.args.now.now valid).1) l a w)

pub returns-in_ok-refused-in-Err-Refused-clause-comes : goal.returns-in_ok-refused-in-Err-Refused-clause-comes
returns-in_ok-refused-in-Err-Refused-clause-comes g c valid = refused_early (giving (g.I.Inbox.map c.args.inbox.now) c.args.now.now) _ _ _ _ (plain c.args.command.now) c.in-Err-Refused.refusal _ c.in_ok-refused-in-Err-Refused.ensures (subst (FaultIs (λ refusal. Told (g.M.Patterns.refusals c.args.patterns.now) (g.M.Patterns.refusals c.need.new.patterns) (g.M.Patterns.refused c.need.new.patterns) (λ large. Refuses large (case_of c.args.now.now c.args.state.now (plain c.args.command.now)) (Some refusal)))) c.in-Err-Refused.field-0-is (c.in-Err-Refused.ensures.fault c.args.now.now valid))

pub returns-in_ok-refused-in-Err-Refused-clause-log : goal.returns-in_ok-refused-in-Err-Refused-clause-log
returns-in_ok-refused-in-Err-Refused-clause-log g c = GoesOn-none _ _ _ refl (λ l. decides_refused _ _ _ _ _ c.in_ok-refused-in-Err-Refused.field-0 (ap (λ (x : Outcome). x.state) c.in_ok-refused-in-Err-Refused.ensures) l)

pub returns-in-Err-OutOfMemory-clause-log : goal.returns-in-Err-OutOfMemory-clause-log
returns-in-Err-OutOfMemory-clause-log g c = GoesOn-none _ _ _ refl (λ l. decides_err _ _ _ _ _ _ _ refl l)
