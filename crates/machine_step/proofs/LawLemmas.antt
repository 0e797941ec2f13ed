-- Laws of what commands come to.
use Rattle.std.proofs.Common.{◌≡◌, ◌≢◌, ◌⊎◌, ℕ, ℤ, List, [], ◌∷◌, ◌++◌, length, Option, Some, None, IsSome, Result, Ok, Err, inl, inr, refl, sym, ap, subst, ◌∙◌, arith}
use Rattle.std.specs.Option.{IfSome}
use Rattle.std.specs.List.{Contains}
use Rattle.std.proofs.lemmas.List.{length-append}
use Rattle.std.proofs.lemmas.List.Elements.{Contains-append_right}
use Rattle.ap_host.specs.Disk.{Files}
use Rattle.package_core.specs.Card.{Card}
use Rattle.run_model.specs.Run.{Outcome}
use Rattle.command_words.specs.Plain.{PlainCommand}
use Rattle.machine_state.specs.declared.refusal.Refusal.{Refusal}
use Rattle.machine_state.specs.declared.refusal.Refusal.TheVariants.{NotBuilt, BadPattern, PatternTooLarge, InputAbsent}
use Rattle.machine_state.specs.declared.arrived.Arrived.{Arrived}
use Rattle.machine_state.specs.declared.arrived.Arrived.TheVariants as arrivals
use Rattle.machine_state.specs.State.{Valid, mirror_of}
use Rattle.machine_state.specs.Values.{StateView}
use Rattle.reply_text.specs.Words.{line}
use Rattle.reply_text.specs.Refusals.{refusal_line}
use Rattle.step_model.specs.declared.reading.Reading.{Reading}
use Rattle.step_model.specs.declared.reading.Reading.TheVariants as readings
use Rattle.step_model.specs.Answers.{ComesTo}
use Rattle.step_model.specs.Case.{Case, Came, Condition, changes, refuses, unbuilt}
use Rattle.step_model.specs.Lawful.{IfRefuses, IsFrom, IsLawful, IsOwn, LawOf}
use Rattle.step_model.specs.Refuses.{IsPatternRefusal, Refuses, reading}
use Rattle.step_model.specs.Steps as steps
use Rattle.step_model.proofs.RefusalLemmas.{Cause, none_some, passed, reads_on}
use Rattle.step_model.proofs.StepLemmas.{is_built, refused_kept, refused_says, step_cause, step_knows, step_plain, step_says, step_some, step_valid}
use Rattle.package_intake.specs.Arrival.{Arrives, list_of}
use Rattle.package_intake.specs.Faults.{IsInputRefusal}
use Rattle.package_intake.specs.Answers.{IsArrival}
use Rattle.machine_step.specs.Causes.{IsCause, IsUnbuilt}
use Rattle.machine_step.specs.Step.{CanBeRead, Given, MayArrive, Step, StepWith, case_of, read_conditions, read_for, refused}
use Rattle.mirror_update.proofs.LawLemmas.{refuses_archive}
use Rattle.machine_step.proofs.ArrivalLemmas.{arrival_refused}
use Rattle.machine_step.proofs.ArchiveLemmas.{SomeUpdates, any_mirror, input_own, mirror_own, not_refused, pattern_more, pattern_read, some_mirror}
use Rattle.machine_step.proofs.CaseLemmas.{IsLawfulCommand, RepoLaw, RepoReads, command_built, readable}

abbrev Out : Type 0
Out = Outcome StateView Refusal

line_some : (text : List ℕ) → line text ≢ []
unfolding line
line_some text e = absurd (omega (arith, ap length e, length-append text (10 ∷ [])))

refusal_some : (refusal : Refusal) → refusal_line refusal ≢ []
unfolding refusal_line
refusal_some refusal = line_some _

-- the law of a command in a state
law_in : RepoLaw → (given : Given) (large : Option (List ℕ)) (state : StateView) (c : PlainCommand) → LawOf state (λ arrived. MayArrive given large state (case_of given.now state c).reads arrived) (case_of given.now state c)
law_in law given large state c = elim (command_built law c) [ inl none ↦ inl (none given.now state) | inr l ↦ inr (l given large state) ]

-- what arrived for a command that goes on
may_of : (given : Given) (large : Option (List ℕ)) (state : StateView) (c : PlainCommand) (arrived : Arrived) → MayArrive given large state (read_for given.now state c) arrived
    → (case_of given.now state c).early ≡ None → (case_of given.now state c).late ≡ None → MayArrive given large state (case_of given.now state c).reads arrived
may_of given large state c arrived may early late = subst (λ (r : Reading). MayArrive given large state r arrived) (reads_on (case_of given.now state c) early late) may

pub valid_step : RepoLaw → (given : Given) (large : Option (List ℕ)) (state : StateView) (c : PlainCommand) (outcome : Out) → Valid state → Step given large state c outcome → Valid outcome.state
valid_step law given large state c outcome v s = step_valid refusal_line large state _ (case_of given.now state c) s.0 outcome (law_in law given large state c) v (may_of given large state c s.0 s.1) s.2

pub kept_step : (given : Given) (large : Option (List ℕ)) (state : StateView) (c : PlainCommand) (outcome : Out) → Step given large state c outcome → IsSome outcome.refusal → outcome.state ≡ state
kept_step given large state c outcome s some = by_refusal outcome.refusal some (refused_kept refusal_line large state (case_of given.now state c) s.0 outcome s.2)
  where
    by_refusal : (o : Option Refusal) → IsSome o → IfSome o (λ refusal. outcome.state ≡ state) → outcome.state ≡ state
    by_refusal (Some refusal) some h = h
    by_refusal None some h = cc

pub says_refusal : (given : Given) (large : Option (List ℕ)) (state : StateView) (c : PlainCommand) (outcome : Out) (refusal : Refusal) → Step given large state c outcome → outcome.refusal ≡ Some refusal → outcome.reply ≡ refusal_line refusal
says_refusal given large state c outcome refusal s e = subst (λ (o : Option Refusal). IfSome o (λ r. outcome.reply ≡ refusal_line r)) e (refused_says refusal_line large state (case_of given.now state c) s.0 outcome s.2)

pub says_step : RepoLaw → (given : Given) (large : Option (List ℕ)) (state : StateView) (c : PlainCommand) (outcome : Out) → Step given large state c outcome → outcome.reply ≢ []
says_step law given large state c outcome s = step_says refusal_line large state _ (case_of given.now state c) s.0 outcome (law_in law given large state c) refusal_some s.2

-- what may arrive for a command that is done hangs on no text that was too large
any_text : (given : Given) (large other : Option (List ℕ)) (state : StateView) (case : Case) (r : Reading) (arrived : Arrived) (outcome : Out) → CanBeRead case r → outcome.refusal ≡ None → steps.StepWith refusal_line large state case arrived outcome
    → MayArrive given large state r arrived → MayArrive given other state r arrived
any_text given large other state case readings.Nothing arrived outcome can none s h = h
any_text given large other state case (readings.Folder name folder) arrived outcome can none s h = h
any_text given large other state case (readings.Mirror name) arrived outcome can none s h =
    any_mirror large other given.inbox state name (mirror_of name state.mirrors) arrived (not_refused refusal_line large state case arrived outcome none can.1 s) h

pub plain_step : RepoReads → (given : Given) (large other : Option (List ℕ)) (state : StateView) (c : PlainCommand) (outcome : Out) → outcome.refusal ≡ None → Step given large state c outcome → Step given other state c outcome
plain_step reads given large other state c outcome none s =
    (s.0, any_text given large other state (case_of given.now state c) (read_for given.now state c) s.0 outcome (readable reads given.now state c) none s.2 s.1, step_plain refusal_line large other state (case_of given.now state c) s.0 outcome none s.2)

pub knows_step : RepoLaw → (now : ℤ) (large : Option (List ℕ)) (state : StateView) (c : PlainCommand) (arrived : Arrived) (outcome : Out) → StepWith now large state c arrived outcome → IsFrom state arrived outcome.state
knows_step law now large state c arrived outcome s = step_knows refusal_line large state _ (case_of now state c) arrived outcome (law_in law (record { inbox = None; now = now }) large state c) s

-- ---- something may arrive for each command

abbrev pub SomeArrives : Type 0
SomeArrives = (files : Files) (known own : List Card) (folder : List ℕ) → (arrived : Result (List Card) Refusal) × Arrives files known own folder arrived

arrives : SomeArrives → SomeUpdates → (given : Given) (large : Option (List ℕ)) (state : StateView) (r : Reading) → (arrived : Arrived) × MayArrive given large state r arrived
arrives some updates given large state readings.Nothing = (arrivals.Nothing, refl)
arrives some updates given large state (readings.Mirror name) = some_mirror updates large given.inbox state name (mirror_of name state.mirrors)
arrives some updates given large state (readings.Folder name folder) = by_inbox given.inbox
  where
    by_arrival : (f : Files) (r : Result (List Card) Refusal) → Arrives f state.known (list_of state name) folder r → (arrived : Arrived) × IsArrival (Some f) state name folder arrived
    by_arrival f (Ok list) e = (arrivals.List list [], (refl, e))
    by_arrival f (Err refusal) e = (arrivals.Refused refusal, e)

    by_inbox : (inbox : Option Files) → (arrived : Arrived) × IsArrival inbox state name folder arrived
    by_inbox None = (arrivals.Refused (InputAbsent folder), tt)
    by_inbox (Some f) = let a = some f state.known (list_of state name) folder in by_arrival f a.0 a.1

pub total_step : SomeArrives → SomeUpdates → (given : Given) (large : Option (List ℕ)) (state : StateView) (c : PlainCommand) → (outcome : Out) × Step given large state c outcome
total_step some updates given large state c =
    let a = arrives some updates given large state (read_for given.now state c) in
    let o = step_some refusal_line large state (case_of given.now state c) a.0 in
    (o.0, (a.0, a.1, o.1))

pub refuses_step : SomeArrives → SomeUpdates → (given : Given) (large : Option (List ℕ)) (state : StateView) (c : PlainCommand) (refusal : Refusal) → Refuses large (case_of given.now state c) (Some refusal) → Step given large state c (refused state refusal)
refuses_step some updates given large state c refusal h =
    let a = arrives some updates given large state (read_for given.now state c) in
    (a.0, a.1, record { refusal = Some refusal; refuses = h; comes = refl })

-- ---- why a command is refused

-- what arrived is refused for a step of an arrival, or for a pattern by which what is read is chosen, and then the command has no other ones
arrival_own : (given : Given) (large : Option (List ℕ)) (state : StateView) (case : Case) (r : Reading) (refusal : Refusal) → CanBeRead case r → MayArrive given large state r (arrivals.Refused refusal)
    → IsOwn refusal ⊎ ((case.conditions ≡ []) × IsPatternRefusal large (read_conditions state r) refusal)
arrival_own given large state case readings.Nothing refusal can may = absurd (cc)
arrival_own given large state case (readings.Folder name folder) refusal can may = inl (input_own refusal (arrival_refused given.inbox state name folder refusal may))
arrival_own given large state case (readings.Mirror name) refusal can may =
    elim (mirror_own refuses_archive large given.inbox state name (mirror_of name state.mirrors) refusal may) [ inl own ↦ inl own | inr told ↦ inr (can.0, told) ]

early_unbuilt : (case : Case) (refusal : Refusal) → case ≡ unbuilt → case.early ≡ Some refusal → refusal ≡ NotBuilt
early_unbuilt case refusal e early = same (sym early ∙ ap (λ (c : Case). c.early) e)
  where
    same : Some refusal ≡ Some NotBuilt → refusal ≡ NotBuilt
    same q = cc

late_unbuilt : (case : Case) (refusal : Refusal) → case ≡ unbuilt → case.late ≡ Some refusal → ⊥
late_unbuilt case refusal e late = none_some refusal (sym (ap (λ (c : Case). c.late) e) ∙ late)

module _ (given : Given) (large : Option (List ℕ)) (state : StateView) (c : PlainCommand) (refusal : Refusal) (can : CanBeRead (case_of given.now state c) (read_for given.now state c)) where
  abbrev here : Case
  here = case_of given.now state c

  abbrev Wanted : Type 0
  Wanted = IsCause given.now large state c refusal

  by_early : IsUnbuilt c ⊎ IsLawfulCommand c → here.early ≡ Some refusal → Wanted
  by_early (inl none) e = inr (inl (early_unbuilt here refusal (none given.now state) e, none))
  by_early (inr l) e = inl (subst (λ (o : Option Refusal). IfSome o IsOwn) e (l given large state).early)

  by_late : IsUnbuilt c ⊎ IsLawfulCommand c → here.late ≡ Some refusal → Wanted
  by_late (inl none) e = absurd (late_unbuilt here refusal (none given.now state) e)
  by_late (inr l) e = inl (subst (λ (o : Option Refusal). IfSome o IsOwn) e (l given large state).late)

  by_arrival : IsOwn refusal ⊎ ((here.conditions ≡ []) × IsPatternRefusal large (read_conditions state (read_for given.now state c)) refusal) → Wanted
  by_arrival (inl own) = inl own
  by_arrival (inr told) = inr (inr (pattern_read large here.conditions (read_conditions state (read_for given.now state c)) refusal told.0 told.1))

  by_came : IsUnbuilt c ⊎ IsLawfulCommand c → (arrived : Arrived) → MayArrive given large state (read_for given.now state c) arrived → ComesTo large here arrived (refuses refusal) → Wanted
  by_came (inl none) arrived may h = absurd (is_built here (none given.now state) (passed large here h.0).0)
  by_came (inr l) arrived may h =
      let parts = passed large here h.0 in
      let own = (l given large state).comes arrived (may_of given large state c arrived may parts.0 parts.1) in
      elim (subst (λ (x : Came). IfRefuses x (λ r. IsOwn r ⊎ (arrived ≡ arrivals.Refused r))) h.1 own) [
        | inl is ↦ inl is
        | inr is ↦ by_arrival (arrival_own given large state here (read_for given.now state c) refusal can (subst (MayArrive given large state (read_for given.now state c)) is may))
      ]

  by_cause : RepoLaw → (arrived : Arrived) → MayArrive given large state (read_for given.now state c) arrived → Cause large here refusal ⊎ ComesTo large here arrived (refuses refusal) → Wanted
  by_cause law arrived may (inl (inl e)) = by_early (command_built law c) e
  by_cause law arrived may (inl (inr (inl p))) = inr (inr (pattern_more large here.conditions (read_conditions state (read_for given.now state c)) refusal p.1))
  by_cause law arrived may (inl (inr (inr e))) = by_late (command_built law c) e.2
  by_cause law arrived may (inr h) = by_came (command_built law c) arrived may h

pub cause_step : RepoLaw → RepoReads → (given : Given) (large : Option (List ℕ)) (state : StateView) (c : PlainCommand) (outcome : Out) (refusal : Refusal) → Step given large state c outcome → outcome.refusal ≡ Some refusal → IsCause given.now large state c refusal
cause_step law reads given large state c outcome refusal s e = by_cause given large state c refusal (readable reads given.now state c) law s.0 s.1 (step_cause refusal_line large state (case_of given.now state c) s.0 outcome refusal e s.2)

pub unbuilt_step : (given : Given) (large : Option (List ℕ)) (state : StateView) (c : PlainCommand) (outcome : Out) → IsUnbuilt c → Step given large state c outcome → outcome.refusal ≡ Some NotBuilt
unbuilt_step given large state c outcome none s = by_case (case_of given.now state c) (none given.now state) s.2
  where
    by_case : (case : Case) → case ≡ unbuilt → steps.StepWith refusal_line large state case s.0 outcome → outcome.refusal ≡ Some NotBuilt
    by_case case e w =
        let v = subst (λ (k : Case). steps.StepWith refusal_line large state k s.0 outcome) e w in
        ap (λ (o : Out). o.refusal) v.comes ∙ ap (λ (r : Option Refusal). (steps.came_to refusal_line state unbuilt s.0 r).refusal) v.refuses.first
