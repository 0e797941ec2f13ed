use Rattle.std.proofs.Common.{Option, List, ℕ, Result, Err, sym, subst}
use Rattle.ap_host.proofs.ChangeLemmas.{GoesOn-map}
use Rattle.command_words.specs.Plain.{plain}
use Rattle.machine_state.specs.Values.{StateView}
use Rattle.step_model.specs.Answers.{IsTold}
use Rattle.machine_step.specs.Step.{giving}
use Rattle.aptly_core.specs.Runs.{Turns, TurnComes}
use Rattle.aptly_core.specs.declared.status.Status.{Status}
use Rattle.aptly_core.proofs.ListLemmas.{turn_so, turn_err, turn_comes}
use Rattle.aptly_core.proofs.run.turn.Goals as goal

pub returns-in-Ok-clause-comes : goal.returns-in-Ok-clause-comes
returns-in-Ok-clause-comes g c valid =
    let given = giving (g.I.Inbox.map c.args.inbox.now) c.args.now.now in
    let Told : Option (List ℕ) → Type 0 = IsTold (g.M.Patterns.refusals c.args.patterns.now) (g.M.Patterns.refusals c.run_in.new.patterns) (g.M.Patterns.refused c.run_in.new.patterns) in
    let cmd = plain c.args.command.now in
    subst (λ (r : Result StateView Status). TurnComes given Told c.args.state cmd r) (sym c.next_of.ensures) (turn_comes given Told c.args.state cmd c.in-Ok.done (c.in-Ok.ensures.comes valid))

pub returns-in-Ok-clause-log : goal.returns-in-Ok-clause-log
returns-in-Ok-clause-log g c =
    let given = giving (g.I.Inbox.map c.args.inbox.now) c.args.now.now in
    let Told : Option (List ℕ) → Type 0 = IsTold (g.M.Patterns.refusals c.args.patterns.now) (g.M.Patterns.refusals c.run_in.new.patterns) (g.M.Patterns.refused c.run_in.new.patterns) in
    let cmd = plain c.args.command.now in
    let before = c.args.stage.now in
    let now = c.run_in.new.stage in
    GoesOn-map _ _ _ _ c.in-Ok.ensures.log (λ l a w. subst (λ (r : Result StateView Status). Turns given Told c.args.state cmd before now r l a) (sym c.next_of.ensures) (turn_so given Told c.args.state cmd before now c.in-Ok.done l a w))

pub returns-in-Err-clause-log : goal.returns-in-Err-clause-log
returns-in-Err-clause-log g c =
    let given = giving (g.I.Inbox.map c.args.inbox.now) c.args.now.now in
    let Told : Option (List ℕ) → Type 0 = IsTold (g.M.Patterns.refusals c.args.patterns.now) (g.M.Patterns.refusals c.run_in.new.patterns) (g.M.Patterns.refused c.run_in.new.patterns) in
    let cmd = plain c.args.command.now in
    let before = c.args.stage.now in
    let now = c.run_in.new.stage in
    GoesOn-map _ _ _ _ c.in-Err.ensures.log (λ l a w. subst (λ (r : Status). Turns given Told c.args.state cmd before now (Err r) l a) (sym c.status_of.ensures) (turn_err given Told c.args.state cmd before now c.in-Err.fault l a w))
