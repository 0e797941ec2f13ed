use Rattle.std.proofs.Common.{List, ℕ, sym, ap, subst, ◌∙◌}
use Rattle.std.proofs.lemmas.Result.{err_from_is_err_and}
use Rattle.ap_host.proofs.ChangeLemmas.{GoesOn-map}
use Rattle.command_words.specs.Plain.{plain}
use Rattle.machine_state.specs.declared.arrived.Arrived.{Arrived}
use Rattle.step_model.specs.declared.reading.Reading.TheVariants as readings
use Rattle.step_model.specs.Answers.{Told}
use Rattle.machine_step.specs.declared.outcome.Outcome.{Outcome}
use Rattle.machine_step.specs.Step.{MayArrive, giving}
use Rattle.aptly_core.proofs.DecideLemmas.{archive_comes, archive_for, archive_refused, decides_broke, decides_kept, decides_so}
use Rattle.aptly_core.proofs.decide.decide_archive.Goals as goal

pub returns-in_err-arrived-clause-log : goal.returns-in_err-arrived-clause-log
returns-in_err-arrived-clause-log g c =
    let e = err_from_is_err_and c.from_residual.result c.from_residual.ensures.1 in
    GoesOn-map _ _ _ _ c.fetch.ensures.log (λ l a w. decides_broke _ (readings.Mirror c.args.name) _ _ (plain c.args.command.now) _ _ _ _ e.0 (λ so. so) e.1 l a w)

pub returns-in_err-refused-in-Refused-clause-log : goal.returns-in_err-refused-in-Refused-clause-log
returns-in_err-refused-in-Refused-clause-log g c =
    let e = err_from_is_err_and c.from_residual-in_err-refused-in-Refused.result c.from_residual-in_err-refused-in-Refused.ensures.1 in
    GoesOn-map _ _ _ _ c.fetch.ensures.log (λ l a w. decides_broke _ (readings.Mirror c.args.name) _ _ (plain c.args.command.now) _ _ _ _ e.0 (λ so. so) e.1 l a w)

pub returns-in_err-step_at-in_default-clause-log : goal.returns-in_err-step_at-in_default-clause-log
returns-in_err-step_at-in_default-clause-log g c =
    let e = err_from_is_err_and c.from_residual-in_err-step_at-in_default.result c.from_residual-in_err-step_at-in_default.ensures.1 in
    GoesOn-map _ _ _ _ c.fetch.ensures.log (λ l a w. decides_broke _ (readings.Mirror c.args.name) _ _ (plain c.args.command.now) _ _ _ _ e.0 (λ so. so) e.1 l a w)

pub returns-in_ok-refused-in-Refused-clause-comes : goal.returns-in_ok-refused-in-Refused-clause-comes
returns-in_ok-refused-in-Refused-clause-comes g c = λ valid is.
    let given = giving (g.I.Inbox.map c.args.inbox.now) c.args.now.now in
    let s = c.args.state.now in
    archive_refused given s (plain c.args.command.now) c.args.name is (g.M.Patterns.refusals c.args.patterns.now) (g.M.Patterns.refusals c.fetch.new.patterns) (g.M.Patterns.refused c.fetch.new.patterns) c.in-Refused.refusal _ c.in_ok-refused-in-Refused.ensures
    (subst (λ (a : Arrived). Told (g.M.Patterns.refusals c.args.patterns.now) (g.M.Patterns.refusals c.fetch.new.patterns) (g.M.Patterns.refused c.fetch.new.patterns) (λ large. MayArrive given large s (readings.Mirror c.args.name) a)) c.in-Refused.is (c.in_ok-arrived.ensures.arrived c.args.now.now valid))

pub returns-in_ok-refused-in-Refused-clause-log : goal.returns-in_ok-refused-in-Refused-clause-log
returns-in_ok-refused-in-Refused-clause-log g c =
    GoesOn-map _ _ _ _ c.fetch.ensures.log (λ l a w. decides_kept _ (readings.Mirror c.args.name) _ _ (plain c.args.command.now) _ _ _ _ (λ so. so) (ap (λ (x : Outcome). x.state) c.in_ok-refused-in-Refused.ensures) l a w)

pub returns-in_ok-step_at-in_default-clause-comes : goal.returns-in_ok-step_at-in_default-clause-comes
returns-in_ok-step_at-in_default-clause-comes g c = λ valid is.
    let given = giving (g.I.Inbox.map c.args.inbox.now) c.args.now.now in
    let s = c.args.state.now in
    let cmd = plain c.args.command.now in
    let told = c.in_ok-arrived.ensures.arrived c.args.now.now valid in
    archive_comes given s cmd c.args.name is (g.M.Patterns.refusals c.args.patterns.now) (g.M.Patterns.refusals c.fetch.new.patterns) (g.M.Patterns.refusals c.step_at.new.patterns) (g.M.Patterns.refused c.step_at.new.patterns) (g.M.Patterns.refused c.fetch.new.patterns) c.in_ok-arrived.arrived c.in_ok-step_at-in_default.field-0 c.fetch.ensures.later c.in_default.not-Refused told
    (c.in_ok-step_at-in_default.ensures.step given.inbox told.0 valid (archive_for given s cmd c.args.name is told.0 c.in_ok-arrived.arrived told.2))

pub returns-in_ok-step_at-in_default-clause-changed : goal.returns-in_ok-step_at-in_default-clause-changed
returns-in_ok-step_at-in_default-clause-changed g c = λ valid is.
    let given = giving (g.I.Inbox.map c.args.inbox.now) c.args.now.now in
    let s = c.args.state.now in
    let cmd = plain c.args.command.now in
    let told = c.in_ok-arrived.ensures.arrived c.args.now.now valid in
    c.in_ok-step_at-in_default.ensures.changed given.inbox told.0 valid (archive_for given s cmd c.args.name is told.0 c.in_ok-arrived.arrived told.2)

pub returns-in_ok-step_at-in_default-clause-log : goal.returns-in_ok-step_at-in_default-clause-log
returns-in_ok-step_at-in_default-clause-log g c =
    let given = giving (g.I.Inbox.map c.args.inbox.now) c.args.now.now in
    let s = c.args.state.now in
    let cmd = plain c.args.command.now in
    GoesOn-map _ _ _ _ c.in_ok-arrived.ensures.log (λ l a w. decides_so _ (readings.Mirror c.args.name) given s cmd _ _ c.in_ok-arrived.arrived c.in_ok-step_at-in_default.field-0 (λ so. so)
    (λ is valid. let told = c.in_ok-arrived.ensures.arrived c.args.now.now valid in let y = c.in_ok-step_at-in_default.ensures.step given.inbox told.0 valid (archive_for given s cmd c.args.name is told.0 c.in_ok-arrived.arrived told.2) in (y.0, y.2)) l a w)
