use Rattle.std.proofs.Common.{None}
use Rattle.std.proofs.lemmas.Result.{err_from_is_err_and}
use Rattle.ap_host.proofs.ChangeLemmas.{GoesOn-map}
use Rattle.command_words.specs.Plain.{plain}
use Rattle.machine_step.specs.Step.{giving}
use Rattle.aptly_core.proofs.DecideLemmas.{decides_so, decides_broke, may_arrive}
use Rattle.aptly_core.proofs.decide.decide_read.Goals as goal

pub returns-in_err-arrived-clause-log : goal.returns-in_err-arrived-clause-log
returns-in_err-arrived-clause-log g c =
    let e = err_from_is_err_and c.from_residual.result c.from_residual.ensures.1 in
    GoesOn-map _ _ _ _ c.arrive.ensures.log (λ l a w. decides_broke _ c.args.reading _ _ (plain c.args.command.now) _ _ _ _ e.0 (λ so. so.1) e.1 l a w)

pub returns-in_err-step_at-clause-log : goal.returns-in_err-step_at-clause-log
returns-in_err-step_at-clause-log g c =
    let e = err_from_is_err_and c.from_residual-in_err-step_at.result c.from_residual-in_err-step_at.ensures.1 in
    GoesOn-map _ _ _ _ c.arrive.ensures.log (λ l a w. decides_broke _ c.args.reading _ _ (plain c.args.command.now) _ _ _ _ e.0 (λ so. so.1) e.1 l a w)

pub returns-clause-comes : goal.returns-clause-comes
returns-clause-comes g c none valid is =
    let given = giving (g.I.Inbox.map c.args.inbox.now) c.args.now.now in
    let may = may_arrive given None c.args.state.now (plain c.args.command.now) c.args.reading c.in_ok-arrived.arrived none is (c.in_ok-arrived.ensures.arrived c.args.now.now None valid) in
    let w = c.in_ok-step_at.ensures.step given.inbox None valid may in
    (w.0, w.1, (c.in_ok-arrived.arrived, may_arrive given w.0 c.args.state.now (plain c.args.command.now) c.args.reading c.in_ok-arrived.arrived none is (c.in_ok-arrived.ensures.arrived c.args.now.now w.0 valid), w.2))

pub returns-clause-changed : goal.returns-clause-changed
returns-clause-changed g c none valid is =
    let given = giving (g.I.Inbox.map c.args.inbox.now) c.args.now.now in
    c.in_ok-step_at.ensures.changed given.inbox None valid (may_arrive given None c.args.state.now (plain c.args.command.now) c.args.reading c.in_ok-arrived.arrived none is (c.in_ok-arrived.ensures.arrived c.args.now.now None valid))

pub returns-clause-log : goal.returns-clause-log
returns-clause-log g c =
    let input = g.I.Inbox.map c.args.inbox.now in
    let s = c.args.state.now in
    let cmd = plain c.args.command.now in
    let given = giving input c.args.now.now in
    GoesOn-map _ _ _ _ c.in_ok-arrived.ensures.log (λ l a w. decides_so _ c.args.reading given s cmd _ _ c.in_ok-arrived.arrived c.in_ok-step_at.field-0 (λ so. so.1)
    (λ so valid. let y = c.in_ok-step_at.ensures.step input None valid (may_arrive given None s cmd c.args.reading c.in_ok-arrived.arrived so.0 so.1 (c.in_ok-arrived.ensures.arrived c.args.now.now None valid)) in (y.0, y.2)) l a w)
