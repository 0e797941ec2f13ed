use Rattle.std.proofs.Common.{Option, List, ℕ, map, refl, ◌∙◌, subst, arith, Err, Ok}
use Rattle.ap_host.specs.Disk.{Files}
use Rattle.ap_host.specs.Changes.{GoesOn}
use Rattle.ap_host.proofs.ChangeLemmas.{GoesOn-map, GoesOn-then, GoesOn-none}
use Rattle.command_words.specs.Plain.{plain}
use Rattle.step_model.specs.Answers.{IsTold}
use Rattle.machine_step.specs.Step.{giving}
use Rattle.aptly_core.specs.Runs.{Turns, TurnComes}
use Rattle.aptly_core.proofs.DecideLemmas.{told_wider}
use Rattle.aptly_core.proofs.ListLemmas.{comes_first, runs_first, comes_more, comes_end, runs_more, runs_end, comes_all, runs_all, plain_below, plain_at, plain_over}
use Rattle.aptly_core.proofs.run.run_list.Goals as goal

pub loop-command-init : goal.loop-command-init
loop-command-init g c =
    let given = giving (g.I.Inbox.map c.args.inbox.now) c.args.now.now in
    let all = map plain c.args.commands.now in
    record {
      host_later = omega arith;
      inbox_later = omega arith;
      later = omega arith;
      inbox_map = refl;
      comes = comes_first given c.args.state all;
      log = GoesOn-none _ _ _ refl (λ l. runs_first given c.args.state all c.args.stage.now l);
    }

pub loop-command-preserved : goal.loop-command-preserved
loop-command-preserved g c =
    let given = giving (g.I.Inbox.map c.args.inbox.now) c.args.now.now in
    let s0 = c.args.state in
    let all = map plain c.args.commands.now in
    let s = c.loop-command.state in
    let i = c.loop-command.command-index in
    let cmd = plain c.command-item.result in
    let lt = plain_below plain c.args.commands.now i c.loop-command-test.true in
    let is = plain_at plain c.args.commands.now i c.command-item.result c.loop-command-test.true c.command-item.is in
    let Told : Option (List ℕ) → Type 0 = IsTold (g.M.Patterns.refusals c.loop-command.patterns) (g.M.Patterns.refusals c.turn.new.patterns) (g.M.Patterns.refused c.turn.new.patterns) in
    let mid = c.loop-command.stage in
    let now = c.turn.new.stage in
    let comes = subst (λ (m : Option Files). TurnComes (giving m c.args.now.now) Told s cmd (Ok c.in-Ok.next)) c.loop-command.invariant.inbox_map in
    let log = subst (λ (m : Option Files). GoesOn (g.H.Host.log c.loop-command.host) (g.H.Host.log c.turn.new.host) (Turns (giving m c.args.now.now) Told s cmd mid now (Ok c.in-Ok.next))) c.loop-command.invariant.inbox_map c.in-Ok.ensures.log in
    record {
      host_later = omega (arith, c.loop-command.invariant.host_later, c.turn.ensures.host_later);
      inbox_later = omega (arith, c.loop-command.invariant.inbox_later, c.turn.ensures.inbox_later);
      later = omega (arith, c.loop-command.invariant.later, c.turn.ensures.later);
      inbox_map = c.turn.ensures.map ∙ c.loop-command.invariant.inbox_map;
      comes = comes_more given s0 all s i cmd lt is Told c.in-Ok.next c.loop-command.invariant.comes (λ valid. comes (c.in-Ok.ensures.comes valid));
      log = GoesOn-then _ _ _ _ _ _ c.loop-command.invariant.log log (λ start a b x y. runs_more given s0 all s i cmd lt is Told Told (λ k w. w) c.args.stage.now mid now start a x b c.in-Ok.next y);
    }

pub returns-in-Err-clause-comes : goal.returns-in-Err-clause-comes
returns-in-Err-clause-comes g c =
    let given = giving (g.I.Inbox.map c.args.inbox.now) c.args.now.now in
    let all = map plain c.args.commands.now in
    let s = c.loop-command.state in
    let i = c.loop-command.command-index in
    let cmd = plain c.command-item.result in
    let lt = plain_below plain c.args.commands.now i c.loop-command-test.true in
    let is = plain_at plain c.args.commands.now i c.command-item.result c.loop-command-test.true c.command-item.is in
    let old = g.M.Patterns.refusals c.args.patterns.now in
    let mid = g.M.Patterns.refusals c.loop-command.patterns in
    let new = g.M.Patterns.refusals c.turn.new.patterns in
    let refused = g.M.Patterns.refused c.turn.new.patterns in
    let comes = subst (λ (m : Option Files). TurnComes (giving m c.args.now.now) (IsTold mid new refused) s cmd (Err c.in-Err.end)) c.loop-command.invariant.inbox_map in
    comes_end given c.args.state all s i cmd lt is (IsTold mid new refused) (IsTold old new refused) (λ k w. told_wider old mid new refused k c.loop-command.invariant.later w) c.in-Err.end c.in-Err.ensures.only c.loop-command.invariant.comes (λ valid. comes (c.in-Err.ensures.comes valid))

pub returns-in-Err-clause-log : goal.returns-in-Err-clause-log
returns-in-Err-clause-log g c =
    let given = giving (g.I.Inbox.map c.args.inbox.now) c.args.now.now in
    let all = map plain c.args.commands.now in
    let s = c.loop-command.state in
    let i = c.loop-command.command-index in
    let cmd = plain c.command-item.result in
    let lt = plain_below plain c.args.commands.now i c.loop-command-test.true in
    let is = plain_at plain c.args.commands.now i c.command-item.result c.loop-command-test.true c.command-item.is in
    let old = g.M.Patterns.refusals c.args.patterns.now in
    let mid = g.M.Patterns.refusals c.loop-command.patterns in
    let new = g.M.Patterns.refusals c.turn.new.patterns in
    let refused = g.M.Patterns.refused c.turn.new.patterns in
    let log = subst (λ (m : Option Files). GoesOn (g.H.Host.log c.loop-command.host) (g.H.Host.log c.turn.new.host) (Turns (giving m c.args.now.now) (IsTold mid new refused) s cmd c.loop-command.stage c.turn.new.stage (Err c.in-Err.end))) c.loop-command.invariant.inbox_map c.in-Err.ensures.log in
    GoesOn-then _ _ _ _ _ _ c.loop-command.invariant.log log (λ start a b x y.
    runs_end given c.args.state all s i cmd lt is (IsTold mid new refused) (IsTold old new refused) (λ k w. told_wider old mid new refused k c.loop-command.invariant.later w) c.args.stage.now c.loop-command.stage c.turn.new.stage start a x b c.in-Err.end c.in-Err.ensures.only c.loop-command.invariant.comes y)

pub returns-clause-comes : goal.returns-clause-comes
returns-clause-comes g c = comes_all (giving (g.I.Inbox.map c.args.inbox.now) c.args.now.now) _ tt c.args.state (map plain c.args.commands.now) c.loop-command.state c.loop-command.command-index (plain_over plain c.args.commands.now c.loop-command.command-index c.loop-command-test.false) c.loop-command.invariant.comes

pub returns-clause-log : goal.returns-clause-log
returns-clause-log g c =
    let Told : Option (List ℕ) → Type 0 = IsTold (g.M.Patterns.refusals c.args.patterns.now) (g.M.Patterns.refusals c.loop-command.patterns) (g.M.Patterns.refused c.loop-command.patterns) in
    GoesOn-map _ _ _ _ c.loop-command.invariant.log (λ start a x. runs_all (giving (g.I.Inbox.map c.args.inbox.now) c.args.now.now) Told tt c.args.state (map plain c.args.commands.now) c.args.stage.now c.loop-command.state c.loop-command.command-index c.loop-command.stage (plain_over plain c.args.commands.now c.loop-command.command-index c.loop-command-test.false) start a x)
