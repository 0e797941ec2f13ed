use Rattle.std.proofs.Common.{ℤ, to_z-of_z, map, refl, sym, subst, ◌∙◌, ap, Some}
use Rattle.ap_host.specs.Changes.{GoesOn}
use Rattle.ap_host.proofs.ChangeLemmas.{GoesOn-map, GoesOn-none}
use Rattle.command_words.specs.Plain.{plain}
use Rattle.command_words.specs.Fault.{IsAt}
use Rattle.command_words.specs.Commands.{IsUsagePlace}
use Rattle.step_model.specs.Answers.{IsTold}
use Rattle.machine_step.specs.Step.{giving}
use Rattle.aptly_core.specs.Calls.{Called}
use Rattle.aptly_core.specs.Runs.{EndsFrom, IsEnd}
use Rattle.aptly_core.proofs.CallLemmas.{called_with, told_with, unread_with, usage_no_end}
use Rattle.aptly_core.proofs.CauseLemmas.{too_large, no_pattern, not_built, all_built, unbuilt_first}
use Rattle.aptly_core.proofs.run.aptly.Goals as goal

pub returns-in-Ok-clause-log : goal.returns-in-Ok-clause-log
returns-in-Ok-clause-log g c =
    let log = subst (λ (n : ℤ). GoesOn (g.H.Host.log c.args.host.now) (g.H.Host.log c.run_now.new.host) (Called (giving (g.I.Inbox.map c.args.inbox.now) n) (IsTold (g.M.Patterns.refusals c.args.patterns.now) (g.M.Patterns.refusals c.run_now.new.patterns) (g.M.Patterns.refused c.run_now.new.patterns)) (map plain c.deref.result.now) c.run_now.result)) (to_z-of_z c.ranges.now) c.run_now.ensures.log in
    GoesOn-map _ _ _ _ log (λ l a w. called_with _ _ c.args.words.now _ (c.in-Ok.ensures.read ∙ ap (λ xs. Some (map plain xs)) (sym c.deref.ensures.value)) _ _ c.run_now.result c.run_now.ensures.host_fault c.run_now.ensures.inbox_fault l a w)

pub returns-in-Err-OutOfMemory-clause-log : goal.returns-in-Err-OutOfMemory-clause-log
returns-in-Err-OutOfMemory-clause-log g c = GoesOn-none _ _ _ refl (λ l. unread_with (giving (g.I.Inbox.map c.args.inbox.now) c.args.now) _ tt c.args.words.now _ _ l)

pub returns-in-Err-At-clause-log : goal.returns-in-Err-At-clause-log
returns-in-Err-At-clause-log g c = GoesOn-map _ _ _ _ c.tell_usage.ensures.log (λ l a w. told_with (giving (g.I.Inbox.map c.args.inbox.now) c.args.now) _ c.args.words.now c.in-Err-At.place (subst (IsAt (IsUsagePlace c.args.words.now)) c.in-Err-At.field-0-is c.in-Err-At.ensures.fault) _ _ c.tell_usage.result l a w)

pub returns-in-Ok-clause-ended : goal.returns-in-Ok-clause-ended
returns-in-Ok-clause-ended g c end = (
  map plain c.deref.result.now,
  c.in-Ok.ensures.read ∙ ap (λ xs. Some (map plain xs)) (sym c.deref.ensures.value),
  subst (λ (n : ℤ). EndsFrom (giving (g.I.Inbox.map c.args.inbox.now) n) (IsTold (g.M.Patterns.refusals c.args.patterns.now) (g.M.Patterns.refusals c.run_now.new.patterns) (g.M.Patterns.refused c.run_now.new.patterns)) (map plain c.deref.result.now) c.run_now.result) (to_z-of_z c.ranges.now) (c.run_now.ensures.ended end),
)

pub returns-in-Err-At-clause-ended : goal.returns-in-Err-At-clause-ended
returns-in-Err-At-clause-ended g c end = absurd (usage_no_end c.tell_usage.result c.tell_usage.ensures.only end)

-- why it is refused
pub returns-in-Ok-clause-too_large : goal.returns-in-Ok-clause-too_large
returns-in-Ok-clause-too_large g c query test is =
    let e = returns-in-Ok-clause-ended g c (subst IsEnd (sym is) tt) in
    let given = giving (g.I.Inbox.map c.args.inbox.now) c.args.now in
    too_large given _ c.args.words.now e.0 e.1 query test (subst (EndsFrom given _ e.0) is e.2)

pub returns-in-Ok-clause-no_pattern : goal.returns-in-Ok-clause-no_pattern
returns-in-Ok-clause-no_pattern g c query test is =
    let e = returns-in-Ok-clause-ended g c (subst IsEnd (sym is) tt) in
    let given = giving (g.I.Inbox.map c.args.inbox.now) c.args.now in
    no_pattern given _ c.args.words.now e.0 e.1 query test (subst (EndsFrom given _ e.0) is e.2)

pub returns-in-Ok-clause-not_built : goal.returns-in-Ok-clause-not_built
returns-in-Ok-clause-not_built g c is =
    let e = returns-in-Ok-clause-ended g c (subst IsEnd (sym is) tt) in
    let given = giving (g.I.Inbox.map c.args.inbox.now) c.args.now in
    not_built given _ c.args.words.now e.0 e.1 (subst (EndsFrom given _ e.0) is e.2)

pub returns-in-Ok-clause-all_built : goal.returns-in-Ok-clause-all_built
returns-in-Ok-clause-all_built g c is asks =
    let e = returns-in-Ok-clause-ended g c (subst IsEnd (sym is) tt) in
    let given = giving (g.I.Inbox.map c.args.inbox.now) c.args.now in
    all_built given _ c.args.words.now e.0 e.1 (subst (EndsFrom given _ e.0) is e.2) asks

pub returns-in-Ok-clause-unbuilt_first : goal.returns-in-Ok-clause-unbuilt_first
returns-in-Ok-clause-unbuilt_first g c end first rest asks is =
    let e = returns-in-Ok-clause-ended g c end in
    let given = giving (g.I.Inbox.map c.args.inbox.now) c.args.now in
    unbuilt_first given _ c.args.words.now e.0 e.1 c.run_now.result end e.2 first rest asks is

pub returns-in-Err-At-clause-too_large : goal.returns-in-Err-At-clause-too_large
returns-in-Err-At-clause-too_large g c query test is = absurd (usage_no_end c.tell_usage.result c.tell_usage.ensures.only (subst IsEnd (sym is) tt))

pub returns-in-Err-At-clause-no_pattern : goal.returns-in-Err-At-clause-no_pattern
returns-in-Err-At-clause-no_pattern g c query test is = absurd (usage_no_end c.tell_usage.result c.tell_usage.ensures.only (subst IsEnd (sym is) tt))

pub returns-in-Err-At-clause-not_built : goal.returns-in-Err-At-clause-not_built
returns-in-Err-At-clause-not_built g c is = absurd (usage_no_end c.tell_usage.result c.tell_usage.ensures.only (subst IsEnd (sym is) tt))

pub returns-in-Err-At-clause-all_built : goal.returns-in-Err-At-clause-all_built
returns-in-Err-At-clause-all_built g c is asks = usage_no_end c.tell_usage.result c.tell_usage.ensures.only (subst IsEnd (sym is) tt)

pub returns-in-Err-At-clause-unbuilt_first : goal.returns-in-Err-At-clause-unbuilt_first
returns-in-Err-At-clause-unbuilt_first g c end first rest asks is = absurd (usage_no_end c.tell_usage.result c.tell_usage.ensures.only end)
