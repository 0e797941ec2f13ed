-- What arrives of the archive of a mirror.
use Rattle.std.specs.Bool.{if◌then◌else◌}
use Rattle.std.specs.Option.{is_some}
use Rattle.std.proofs.Common.{◌≡◌, ◌⊎◌, ℕ, List, [], ◌∷◌, ◌++◌, Option, Some, None, Result, Ok, Err, inl, inr, refl, sym, ap, subst, ◌∙◌, arith, append_assoc}
use Rattle.ap_host.specs.Disk.{Files}
use Rattle.package_core.specs.Card.{Card}
use Rattle.run_model.specs.Run.{Outcome}
use Rattle.machine_state.specs.declared.arrived.Arrived.{Arrived}
use Rattle.machine_state.specs.declared.arrived.Arrived.TheVariants as arrivals
use Rattle.machine_state.specs.declared.fetched.Fetched.{Fetched}
use Rattle.machine_state.specs.declared.limit.Kind.TheVariants as kinds
use Rattle.machine_state.specs.declared.limit.Limit.{Limit as LimitKind}
use Rattle.machine_state.specs.declared.limit.Limit.TheVariants as limits
use Rattle.machine_state.specs.declared.refusal.Refusal.{Refusal}
use Rattle.machine_state.specs.declared.refusal.Refusal.TheVariants.{NotBuilt, BadPattern, PatternTooLarge, Limit, Unknown}
use Rattle.machine_state.specs.State.{mirror_of}
use Rattle.machine_state.specs.Values.{MirrorView, StateView}
use Rattle.command_words.specs.Plain.{PlainCommand}
use Rattle.reply_text.specs.Refusals.{refusal_line}
use Rattle.step_model.specs.declared.reading.Reading.{Reading}
use Rattle.step_model.specs.declared.reading.Reading.TheVariants as readings
use Rattle.step_model.specs.Case.{Case, Condition, or_else, refuses}
use Rattle.step_model.specs.Lawful.{IsOwn}
use Rattle.step_model.specs.Refuses.{ArePatterns, IsPatternRefusal, IsPick, reading}
use Rattle.step_model.specs.Steps as steps
use Rattle.package_intake.specs.Faults.{IsInputRefusal}
use Rattle.mirror_update.specs.Answers.{FilesArrive, IsArchiveRefusal, IsArrival, PickArrives, Updates}
use Rattle.mirror_update.specs.Arrival.{Arrives}
use Rattle.mirror_update.specs.Filter.{conditions_of}
use Rattle.mirror_ops.specs.Cases.{MirrorArrives}
use Rattle.machine_step.specs.Step.{CanBeRead, Given, MayArrive, Step, case_of, filter_conditions, read_for, refused}

-- ---- what was fetched hangs on no text that was too large

any_pick : (large other : Option (List ℕ)) (inbox : Option Files) (state : StateView) (mirror : MirrorView) (fetched : Fetched) (pick : Option Refusal) → IsPick large (conditions_of mirror) pick → PickArrives pick inbox state mirror (Ok fetched) → Updates other inbox state mirror (Ok fetched)
any_pick large other inbox state mirror fetched None legal comes = record { pick = None; legal = legal; comes = comes }
any_pick large other inbox state mirror fetched (Some refusal) legal comes = absurd (no comes)
  where
    no : Ok fetched ≡ Err refusal → ⊥
    no e = cc

pub any_mirror : (large other : Option (List ℕ)) (inbox : Option Files) (state : StateView) (name : List ℕ) (o : Option MirrorView) (arrived : Arrived) → ((refusal : Refusal) → arrived ≡ arrivals.Refused refusal → ⊥)
    → MirrorArrives large inbox state name o arrived → MirrorArrives other inbox state name o arrived
any_mirror large other inbox state name None arrived none h = h
any_mirror large other inbox state name (Some mirror) (arrivals.List list date) none h = any_pick large other inbox state mirror (record { date = date; list = list }) h.pick h.legal h.comes
any_mirror large other inbox state name (Some mirror) (arrivals.Refused refusal) none h = absurd (none refusal refl)
any_mirror large other inbox state name (Some mirror) arrivals.Nothing none h = h

-- where the case refuses what arrived as refused, nothing that is done came of it
pub not_refused : (line : Refusal → List ℕ) (large : Option (List ℕ)) (state : StateView) (case : Case) (arrived : Arrived) (outcome : Outcome StateView Refusal) → outcome.refusal ≡ None → ((refusal : Refusal) → case.comes (arrivals.Refused refusal) ≡ refuses refusal)
    → steps.StepWith line large state case arrived outcome → (refusal : Refusal) → arrived ≡ arrivals.Refused refusal → ⊥
not_refused line large state case arrived outcome none told w refusal is = by_refusal w.refusal (ap (λ (o : Outcome StateView Refusal). o.refusal) w.comes)
  where
    some_none : (r : Refusal) → None ≡ Some r → ⊥
    some_none r e = cc

    came : case.comes arrived ≡ refuses refusal
    came = ap case.comes is ∙ told refusal

    by_refusal : (o : Option Refusal) → outcome.refusal ≡ (steps.came_to line state case arrived o).refusal → ⊥
    by_refusal (Some r) e = some_none r (sym none ∙ e)
    by_refusal None e = some_none refusal (sym none ∙ e ∙ ap (λ c. (steps.outcome_of line state c).refusal) came)

-- ---- something arrives of each

abbrev pub SomeUpdates : Type 0
SomeUpdates = (large : Option (List ℕ)) (inbox : Option Files) (state : StateView) (mirror : MirrorView) → (arrived : Result Fetched Refusal) × Updates large inbox state mirror arrived

pub some_mirror : SomeUpdates → (large : Option (List ℕ)) (inbox : Option Files) (state : StateView) (name : List ℕ) (o : Option MirrorView) → (arrived : Arrived) × MirrorArrives large inbox state name o arrived
some_mirror some large inbox state name None = (arrivals.Refused (Unknown kinds.Mirror name), refl)
some_mirror some large inbox state name (Some mirror) = let u = some large inbox state mirror in by_result u.0 u.1
  where
    by_result : (r : Result Fetched Refusal) → Updates large inbox state mirror r → (arrived : Arrived) × IsArrival large inbox state mirror arrived
    by_result (Ok fetched) u = (arrivals.List fetched.list fetched.date, u)
    by_result (Err refusal) u = (arrivals.Refused refusal, u)

-- ---- why it is refused

pub input_own : (refusal : Refusal) → IsInputRefusal refusal → IsOwn refusal
input_own NotBuilt w = w
input_own (BadPattern query test) w = w
input_own (PatternTooLarge query test) w = w
input_own refusal w = tt

archive_own : (refusal : Refusal) → IsArchiveRefusal refusal → IsOwn refusal
archive_own (Limit limit) w = tt
archive_own NotBuilt w = w
archive_own (BadPattern query test) w = w
archive_own (PatternTooLarge query test) w = w
archive_own refusal w = tt

abbrev error_of : Refusal → Result Fetched Refusal
error_of refusal = Err refusal

-- why archives are refused
abbrev pub RefusesArchive : Type 0
RefusesArchive = (files : Files) (known : List Card) (mirror : MirrorView) (refusal : Refusal) → Arrives files known mirror (Err refusal) → IsArchiveRefusal refusal

module _ (law : RefusesArchive) (large : Option (List ℕ)) (inbox : Option Files) (state : StateView) (mirror : MirrorView) (refusal : Refusal) where
  files_own : (o : Option Files) → FilesArrive o state mirror (Err refusal) → IsOwn refusal
  files_own (Some files) h = archive_own refusal (law files state.known mirror refusal h)
  files_own None h = archive_own refusal h

  pick_own : (pick : Option Refusal) → IsPick large (conditions_of mirror) pick → PickArrives pick inbox state mirror (Err refusal) → IsOwn refusal ⊎ IsPatternRefusal large (conditions_of mirror) refusal
  pick_own None legal comes = inl (files_own inbox comes)
  pick_own (Some r) legal comes = inr (subst (λ (x : Refusal). IsPatternRefusal large (conditions_of mirror) x) (same comes) legal)
    where
      same : error_of refusal ≡ error_of r → r ≡ refusal
      same e = cc

pub mirror_own : RefusesArchive → (large : Option (List ℕ)) (inbox : Option Files) (state : StateView) (name : List ℕ) (o : Option MirrorView) (refusal : Refusal) → MirrorArrives large inbox state name o (arrivals.Refused refusal)
    → IsOwn refusal ⊎ IsPatternRefusal large (filter_conditions o) refusal
mirror_own law large inbox state name None refusal h = inl (subst IsOwn (sym (same h)) tt)
  where
    same : arrivals.Refused refusal ≡ arrivals.Refused (Unknown kinds.Mirror name) → refusal ≡ Unknown kinds.Mirror name
    same e = cc
mirror_own law large inbox state name (Some mirror) refusal h = pick_own law large inbox state mirror refusal h.pick h.legal h.comes

-- ---- conditions

-- the first of some conditions that can't be built is the first of them and more
pub pattern_more : (large : Option (List ℕ)) (conditions more : List Condition) (refusal : Refusal) → IsPatternRefusal large conditions refusal → IsPatternRefusal large (conditions ++ more) refusal
pattern_more large conditions more refusal p = record {
  before = p.before;
  condition = p.condition;
  behind = p.behind ++ more;
  split = ap (λ (l : List Condition). l ++ more) p.split ∙ append_assoc p.before (p.condition ∷ p.behind) more;
  read = p.read;
  told = p.told;
}

-- where there are no others, those that are read with are all
pub pattern_read : (large : Option (List ℕ)) (conditions more : List Condition) (refusal : Refusal) → conditions ≡ [] → IsPatternRefusal large more refusal → IsPatternRefusal large (conditions ++ more) refusal
pattern_read large conditions more refusal e p = subst (λ (l : List Condition). IsPatternRefusal large (l ++ more) refusal) (sym e) p

-- ---- a step with an archive

-- a command for which an archive is read isn't refused before
read_passes : (case : Case) (name : List ℕ) → reading case ≡ readings.Mirror name → or_else case.early case.late ≡ None
read_passes case name = by_first (or_else case.early case.late)
  where
    by_first : (o : Option Refusal) → (if is_some o then readings.Nothing else case.reads) ≡ readings.Mirror name → o ≡ None
    by_first None e = refl
    by_first (Some refusal) e = absurd (no e)
      where
        no : readings.Nothing ≡ readings.Mirror name → ⊥
        no e = cc

-- where the archive is refused the command is
pub refused_archive : (given : Given) (large : Option (List ℕ)) (state : StateView) (c : PlainCommand) (name : List ℕ) (refusal : Refusal) → readings.Mirror name ≡ read_for given.now state c → CanBeRead (case_of given.now state c) (readings.Mirror name)
    → MayArrive given large state (readings.Mirror name) (arrivals.Refused refusal) → Step given large state c (refused state refusal)
refused_archive given large state c name refusal is can may =
    let case = case_of given.now state c in (
      arrivals.Refused refusal,
      subst (λ (r : Reading). MayArrive given large state r (arrivals.Refused refusal)) is may,
      record {
        refusal = None;
        refuses = record {
          pick = None;
          legal = λ early. subst (λ (l : List Condition). ArePatterns l) (sym can.0) none_asked;
          first = sym (read_passes case name (sym is));
        };
        comes = ap (steps.outcome_of refusal_line state) (sym (can.1 refusal));
      },
    )
  where
    none_asked : ArePatterns []
    none_asked k d lt = absurd (omega (arith, lt))

-- what arrived of it and isn't refused hangs on no text that was too large
pub archive_any : (given : Given) (large other : Option (List ℕ)) (state : StateView) (name : List ℕ) (arrived : Arrived) → ((refusal : Refusal) → arrived ≡ arrivals.Refused refusal → ⊥)
    → MayArrive given large state (readings.Mirror name) arrived → MayArrive given other state (readings.Mirror name) arrived
archive_any given large other state name arrived none h = any_mirror large other given.inbox state name (mirror_of name state.mirrors) arrived none h
