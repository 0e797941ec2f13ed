use Rattle.std.proofs.Common.{List, ℕ, ◌++◌, Option, None, Result, Ok, refl, sym, ◌∙◌, subst}
use Rattle.std.proofs.lemmas.Result.{err_from_is_err_and}
use Rattle.ap_host.specs.declared.host.Op.TheVariants.{Say}
use Rattle.ap_host.specs.declared.host.Op.{Op}
use Rattle.ap_host.specs.declared.host.HostErr.{HostErr}
use Rattle.ap_host.specs.Calls.{Did}
use Rattle.ap_host.specs.Disk.{extended}
use Rattle.ap_host.proofs.ChangeLemmas.{does, GoesOn-map, GoesOn-then}
use Rattle.command_words.specs.Plain.{plain}
use Rattle.machine_state.specs.State.{Valid}
use Rattle.machine_state.specs.Values.{StateView}
use Rattle.step_model.specs.Answers.{IsTold}
use Rattle.machine_step.specs.Step.{giving}
use Rattle.aptly_core.specs.Machine.{Steps}
use Rattle.aptly_core.specs.Runs.{RunsOne}
use Rattle.catalogue_root.proofs.CommitLemmas.{rest_valid}
use Rattle.catalogue_root.proofs.SaveLemmas.{saving_commits}
use Rattle.aptly_core.proofs.Lawful.{keeps}
use Rattle.aptly_core.proofs.GrowLemmas.{taking_work}
use Rattle.aptly_core.proofs.RunLemmas.{next_held, made, runs_err, broke_taking, quietly, say_broke, saved_work, taken_work, all_grows, all_rests, Decided, decided_then_saved, runs_ok}
use Rattle.aptly_core.proofs.run.run_in.Goals as goal

pub returns-in_err-outcome-clause-log : goal.returns-in_err-outcome-clause-log
returns-in_err-outcome-clause-log g c =
    let e = err_from_is_err_and c.from_residual.result c.from_residual.ensures.1 in
    let cmd = plain c.args.command.now in
    let s = c.args.state in
    let given = giving (g.I.Inbox.map c.args.inbox.now) c.args.now.now in
    GoesOn-map _ _ _ _ c.decide.ensures.log (λ l p w. runs_err given _ s cmd _ _ _ e.0 l p e.1 (taking_work l p w.grows.kinds) (λ may. (None, tt, broke_taking given l s cmd p w.grows (w.nothing (rest_valid s l may.rest)) may.rest)))

pub returns-in_err-save-clause-log : goal.returns-in_err-save-clause-log
returns-in_err-save-clause-log g c =
    let e = err_from_is_err_and c.from_residual-in_err-save.result c.from_residual-in_err-save.ensures.1 in
    let cmd = plain c.args.command.now in
    let s = c.args.state in
    let given = giving (g.I.Inbox.map c.args.inbox.now) c.args.now.now in
    let out = c.in_ok-outcome.outcome in
    let before = c.args.stage.now in
    let mid = c.decide.new.stage in
    let now = c.save.new.stage in
    GoesOn-then _ _ _ _ _ _ c.in_ok-outcome.ensures.log c.save.ensures.log (λ l p a d w.
    runs_err given _ s cmd before now _ e.0 l (p ++ a) e.1 (taken_work l (extended p l) p a d.grows (saving_commits out.state (extended p l) a w.only)) (λ may.
    let valid = rest_valid s l may.rest in
    let step = c.in_ok-outcome.ensures.comes valid in
    let next = next_held given l s cmd step.0 (made s out) may.rest step.2 in
    (step.0, step.1, quietly given step.0 l s cmd (made s out) step.2 out.state refl c.in_ok-outcome.ensures.kept (c.in_ok-outcome.ensures.changed valid) p d.grows (d.nothing valid) mid now _ a w (all_grows given l s cmd before mid out p d may next now _ a w))))

pub returns-in_err-say-clause-log : goal.returns-in_err-say-clause-log
returns-in_err-say-clause-log g c =
    let e = err_from_is_err_and c.from_residual-in_err-say.result c.from_residual-in_err-say.ensures.1 in
    let cmd = plain c.args.command.now in
    let s = c.args.state in
    let given = giving (g.I.Inbox.map c.args.inbox.now) c.args.now.now in
    let out = c.in_ok-outcome.outcome in
    let before = c.args.stage.now in
    let mid = c.decide.new.stage in
    let now = c.save.new.stage in
    let bytes = c.as_bytes.ensures.value ∙ c.as_str.ensures in
    let ok : Result (Unit {0}) HostErr = Ok tt in
    let Told : Option (List ℕ) → Type 0 = IsTold (g.M.Patterns.refusals c.args.patterns.now) (g.M.Patterns.refusals c.decide.new.patterns) (g.M.Patterns.refused c.decide.new.patterns) in
    let saved = GoesOn-then _ _ _ _ _ (Decided given s cmd before mid now out ok) c.in_ok-outcome.ensures.log c.in_ok-save.ensures.log (decided_then_saved given s cmd before mid now out ok) in
    GoesOn-then _ _ _ _ _ _ saved (does (Say c.as_bytes.result.now) c.say.result _ _ c.say.ensures.log) (λ l q b x y.
    let did = subst (λ (t : List ℕ). Did (Say t) c.say.result b) bytes y in
    let p = x.taken in
    let a = x.saved in
    let d = x.decides in
    let w = x.saves in
    subst (λ (z : List Op). RunsOne given Told s cmd before now c.from_residual-in_err-say.result l (z ++ b)) x.cut (
    runs_err given Told s cmd before now c.from_residual-in_err-say.result e.0 l ((p ++ a) ++ b) e.1 (saved_work l (extended p l) p a d.grows (saving_commits out.state (extended p l) a w.only) out.reply c.say.result b did) (λ may.
    let valid = rest_valid s l may.rest in
    let step = c.in_ok-outcome.ensures.comes valid in
    let next = next_held given l s cmd step.0 (made s out) may.rest step.2 in
    (step.0, step.1, say_broke given step.0 l s cmd (made s out) step.2 out.state refl c.in_ok-outcome.ensures.kept (c.in_ok-outcome.ensures.changed valid) p d.grows (d.nothing valid) mid now _ a w (all_grows given l s cmd before mid out p d may next now _ a w) (Unit {0}) _ b (all_rests given l s cmd before mid out p d may next now _ a w tt refl) (subst (λ v. Did (Say out.reply) v b) c.in_err-say.was did)))))

pub returns-clause-comes : goal.returns-clause-comes
returns-clause-comes g c valid =
    let cmd = plain c.args.command.now in
    let s = c.args.state in
    let given = giving (g.I.Inbox.map c.args.inbox.now) c.args.now.now in
    let out = c.in_ok-outcome.outcome in
    let step = c.in_ok-outcome.ensures.comes valid in
    subst (λ (t : StateView). Valid t × (x : List ℕ) × (large : Option (List ℕ)) × IsTold (g.M.Patterns.refusals c.args.patterns.now) (g.M.Patterns.refusals c.decide.new.patterns) (g.M.Patterns.refused c.decide.new.patterns) large × Steps given large s cmd (record { reply = x; refusal = out.refusal; state = t })) (sym c.unwrap_or.ensures)
    (keeps given step.0 s cmd (made s out) valid step.2, out.reply, step.0, step.1, step.2)

pub returns-clause-log : goal.returns-clause-log
returns-clause-log g c =
    let cmd = plain c.args.command.now in
    let s = c.args.state in
    let given = giving (g.I.Inbox.map c.args.inbox.now) c.args.now.now in
    let out = c.in_ok-outcome.outcome in
    let before = c.args.stage.now in
    let mid = c.decide.new.stage in
    let now = c.save.new.stage in
    let bytes = c.as_bytes.ensures.value ∙ c.as_str.ensures in
    let ok : Result (Unit {0}) HostErr = Ok tt in
    let Told : Option (List ℕ) → Type 0 = IsTold (g.M.Patterns.refusals c.args.patterns.now) (g.M.Patterns.refusals c.decide.new.patterns) (g.M.Patterns.refused c.decide.new.patterns) in
    let saved = GoesOn-then _ _ _ _ _ (Decided given s cmd before mid now out ok) c.in_ok-outcome.ensures.log c.in_ok-save.ensures.log (decided_then_saved given s cmd before mid now out ok) in
    GoesOn-then _ _ _ _ _ _ saved (does (Say c.as_bytes.result.now) c.say.result _ _ c.say.ensures.log) (λ l q b x y.
    let did = subst (λ (t : List ℕ). Did (Say t) c.say.result b) bytes y in
    let told = subst (λ v. Did (Say out.reply) v b) c.in_ok-say.was did in
    subst (λ (t : StateView). RunsOne given Told s cmd before now (Ok (t, out.refusal)) l (q ++ b)) (sym c.unwrap_or.ensures) (runs_ok given Told s cmd before mid now out tt ok refl c.in_ok-outcome.ensures.comes c.in_ok-outcome.ensures.kept c.in_ok-outcome.ensures.changed l q b x told c.say.result did))
