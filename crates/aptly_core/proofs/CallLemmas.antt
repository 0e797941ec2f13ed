-- From the opening and the run to the whole call.
use Rattle.std.proofs.Common.{◌≡◌, ◌⊎◌, inl, inr, List, ℕ, Bool, true, false, [], ◌∷◌, ◌++◌, take, drop, Option, Some, None, option_map, codes, IsTrue, IsFalse, Result, Ok, Err, OnOk, refl, sym, ◌∙◌, ap, subst, append-nil}
use Rattle.std.specs.Bool.{if◌then◌else◌}
use Rattle.std.proofs.lemmas.List.{take-append-drop}
use Rattle.ap_host.specs.declared.host.Op.{Op}
use Rattle.ap_host.specs.declared.host.Op.TheVariants.{Create, Append, Sync, Rename, Remove, Barrier, Say, Claim}
use Rattle.ap_host.specs.declared.host.HostErr.{HostErr}
use Rattle.ap_host.specs.declared.host.HostErr.TheVariants.{Failed, OutOfMemory as NoMemory}
use Rattle.ap_host.specs.Disk.{Path, Files, Log, Image, extended, live_of, said}
use Rattle.ap_host.specs.Calls.{Did}
use Rattle.ap_host.specs.Changes.{EachOp}
use Rattle.ap_host.proofs.ChangeLemmas.{EachOp-append}
use Rattle.ap_host.proofs.DiskLemmas.{extended-append, extended-none}
use Rattle.run_model.specs.Run.{AtRest, IsFront, Ran}
use Rattle.run_model.specs.Call.{Entry, OpenedWhole, RanAll, SetsLate}
use Rattle.run_model.proofs.Joins.{said-append}
use Rattle.run_model.proofs.Openings.{first, live_first, durable_first, sets_never, opened_none, opened_claimed, opened_more, opened_whole}
use Rattle.run_model.proofs.Opens.{opened_then_ran, broke_opening, begun}
use Rattle.run_model.proofs.Says.{image_said, live_said}
use Rattle.catalogue_root.specs.declared.damage.LoadFault.{LoadFault}
use Rattle.catalogue_root.specs.declared.damage.LoadFault.TheVariants as faults
use Rattle.command_words.specs.Plain.{PlainCommand, of_other, db_cleanup}
use Rattle.command_words.specs.Commands as words_spell
use Rattle.command_words.specs.Commands.{IsUsagePlace}
use Rattle.stage_file.specs.Stage.{StageState, is_staged}
use Rattle.hash_pool.specs.Growth.{IsOnce}
use Rattle.hash_pool.proofs.NameLemmas.{pooled_not_staged}
use Rattle.machine_state.specs.State.{Valid, empty}
use Rattle.machine_state.specs.Values.{StateView}
use Rattle.machine_step.specs.Step.{Given}
use Rattle.reply_text.specs.Refusals.{usage_line}
use Rattle.machine_state.specs.declared.refusal.Refusal.{Refusal}
use Rattle.catalogue_root.specs.declared.damage.Damage.{Damage}
use Rattle.aptly_core.specs.declared.status.Status.{Status}
use Rattle.aptly_core.specs.declared.status.Status.TheVariants.{Done, Refused, Usage, HostFault, InboxFault, OutOfMemory, Damaged, Busy}
use Rattle.aptly_core.specs.Calls.{asked, GotClaim, CallTo, Called, CalledWith, TellsUsage, SaysUsage, IsSaid, IsRunAnswer, IsDamagedAnswer, IsUsageAnswer, LawOfWords, LawOfEmptyStore}
use Rattle.aptly_core.specs.Machine.{machine, IsWork, IsOpening, Opening}
use Rattle.aptly_core.specs.Opens.{status_of_load, RunsClaimed, IsFault, IsClaimedStatus, IsDamagedOrFault}
use Rattle.aptly_core.specs.Runs.{RanAs, RanTo, RunsList, EndsWith, IsEnd, IsRunStatus}
use Rattle.catalogue_root.specs.Commits.{Sets}
use Rattle.catalogue_root.specs.Loads.{IsDamage, RootApart}
use Rattle.catalogue_root.specs.Opens.{IsSettling, OpensTo}
use Rattle.catalogue_root.specs.Store.{Sound, SoundForNone, Open, store}
use Rattle.catalogue_root.proofs.FitLemmas.{open_stored}
use Rattle.catalogue_root.proofs.LoadLemmas.{empty_open, sound_once, stored_sound}
use Rattle.catalogue_root.proofs.SettleLemmas.{settling_each, settling_quiet, settling_target}
use Rattle.aptly_core.proofs.Lawful.{lawful}
use Rattle.aptly_core.proofs.RunLemmas.{words_each, say_words, apart_along}
use Rattle.aptly_core.specs.Apart.{Apart, BodiesApart}

-- what settles a store is work
is_work : (p : Path) → IsTrue (is_staged p) → IsWork (Remove p)
is_work p is = search

settling_work : (a : List Op) → EachOp IsSettling a → EachOp IsWork a
settling_work a each = settling_each IsWork is_work tt a each

fault_or : (status : Status) → IsFault status → IsDamagedOrFault status
fault_or HostFault is = tt
fault_or InboxFault is = absurd is
fault_or OutOfMemory is = tt
fault_or Done is = absurd is
fault_or (Refused r) is = absurd is
fault_or (Usage p) is = absurd is
fault_or (Damaged d) is = absurd is
fault_or Busy is = absurd is

-- the opening of a claimed store broke off
pub claimed_fault : (given : Given) (Told : Option (List ℕ) → Type 0) (cs : List PlainCommand) (status : Status) (r : Result StateView LoadFault) (l : Log) (a : List Op) → IsFault status → OpensTo r l a → RunsClaimed given Told cs status l a
claimed_fault given Told cs status r l a is w = record {
  work = settling_work a w.settles.only;
  damaged = λ d e. absurd (subst IsFault e is);
  none = λ none. fault_or status is;
  refused = λ q e. absurd (subst IsFault e is);
  went = λ s durable stands apart. inl (record { fault = is; only = w.settles.only; keeps = w.settles.keeps s durable stands; serves = w.settles.serves s durable stands });
}

pub claimed_damaged : (given : Given) (Told : Option (List ℕ) → Type 0) (cs : List PlainCommand) (d : Damage) (l : Log) (a : List Op) → OpensTo (Err (faults.Damaged d)) l a → RunsClaimed given Told cs (Damaged d) l a
claimed_damaged given Told cs d l a w = record {
  work = settling_work a w.settles.only;
  damaged = λ e is. let one : d ≡ e = cc in (w.damaged d refl, λ apart. let x = w.loads apart in (x.0, subst (λ (y : Damage). IsDamage (live_of l) y) one x.1));
  none = λ none. tt;
  refused = λ q e. absurd (cc);
  went = λ s durable stands apart. absurd ((w.loads apart.texts).0 s (stored_sound (live_of l) s (open_stored (live_of l) s stands)));
}

-- no state was given
pub claimed_none : (given : Given) (Told : Option (List ℕ) → Type 0) (cs : List PlainCommand) (fault : LoadFault) (status : Status) → status ≡ status_of_load fault → (l : Log) (a : List Op) → OpensTo (Err fault) l a → RunsClaimed given Told cs status l a
claimed_none given Told cs fault status is l a w = subst (λ (x : Status). RunsClaimed given Told cs x l a) (sym is) (go fault w)
  where
    go : (fault : LoadFault) → OpensTo (Err fault) l a → RunsClaimed given Told cs (status_of_load fault) l a
    go (faults.Damaged d) w = claimed_damaged given Told cs d l a w
    go faults.HostFault w = claimed_fault given Told cs HostFault (Err faults.HostFault) l a tt w
    go faults.OutOfMemory w = claimed_fault given Told cs OutOfMemory (Err faults.OutOfMemory) l a tt w

-- what is told apart stays so when staged files are removed
apart_settled : (input : Option Files) (l : Log) (a : List Op) → ((q : Path) → IsFalse (is_staged q) → live_of (extended a l) q ≡ live_of l q) → BodiesApart input (live_of l) → BodiesApart input (live_of (extended a l))
apart_settled input l a same apart = apart_along input (live_of l) (live_of (extended a l)) (λ q is. same q (pooled_not_staged q is)) apart

-- it was opened, and then the commands ran
pub claimed_ran : (given : Given) (Told : Option (List ℕ) → Type 0) (cs : List PlainCommand) (status : Status) (state : StateView) (st : StageState) (l : Log) (a b : List Op) → Valid state → IsRunStatus status → (Valid state → EndsWith given Told state cs status) → OpensTo (Ok state) l a → RunsList given Told state cs st status (extended a l) b → RunsClaimed given Told cs status l (a ++ b)
claimed_ran given Told cs status state st l a b valid is comes w y = record {
  work = EachOp-append IsWork a b (settling_work a w.settles.only) y.work;
  damaged = λ d e. absurd (subst IsRunStatus e is);
  none = λ none. absurd (none state w.loads);
  refused = λ q e. (
    (
      (y.refused valid q e).0,
      said-append a b ∙ ap (λ (x : List ℕ). x ++ said b) (settling_quiet a w.settles.only) ∙ (y.refused valid q e).1,
    ),
    λ s sound apart. subst (λ (x : StateView). EndsWith given Told x cs status) (sound_once (live_of l) state s apart w.loads sound) (comes valid),
  );
  went = λ s durable stands apart.
      let same : state ≡ s = sound_once (live_of l) state s apart.texts w.loads (stored_sound (live_of l) s (open_stored (live_of l) s stands)) in
      inr (record {
        opening = a;
        rest = b;
        cut = refl;
        only = w.settles.only;
        keeps = w.settles.keeps s durable stands;
        serves = w.settles.serves s durable stands;
        ready = w.settles.ready s durable stands;
        ran = subst (λ (x : StateView). RanTo given Told (extended a l) x cs status b) same (y.ran (record {
          rest = subst (λ (x : StateView). AtRest store x (extended a l)) (sym same) (λ f image. (w.settles.ready s durable stands f image).0);
          step = λ clean. w.settles.durable durable;
          apart = apart_settled given.inbox l a w.settles.same apart.bodies;
        }));
      });
}

-- what keeps to an opening
opening_more : (l : Log) (s : StateView) (a : List Op) → EachOp IsSettling a → Opening l s (Claim true ∷ Barrier ∷ a)
opening_more l s a only = record {
  kinds = (tt, (tt, settling_each IsOpening (λ p is. is) tt a only));
  once = subst IsOnce (sym (settling_target a only)) tt;
}

opening_sets : (given : Given) (l : Log) (s : StateView) (a : List Op) → EachOp IsSettling a → SetsLate (machine given) l s (Claim true ∷ Barrier ∷ a)
opening_sets given l s a only = sets_never (machine given) l s (Claim true ∷ Barrier ∷ a) ((λ no. no), ((λ no. no), settling_each (λ op. ¬ Sets op) (λ p is no. no) (λ no. no) a only))

call_fault : (given : Given) (l : Log) (s t : StateView) (cs : List PlainCommand) (status : Status) (ops : List Op) → IsFault status → RanAll (machine given) None l s t cs None ops → CallTo given None l s t cs status ops
call_fault given l s t cs HostFault ops is ran = ran
call_fault given l s t cs InboxFault ops is ran = absurd is
call_fault given l s t cs OutOfMemory ops is ran = ran
call_fault given l s t cs Done ops is ran = absurd is
call_fault given l s t cs (Refused r) ops is ran = absurd is
call_fault given l s t cs (Usage p) ops is ran = absurd is
call_fault given l s t cs (Damaged d) ops is ran = absurd is
call_fault given l s t cs Busy ops is ran = absurd is

module _ (given : Given) (k : Option (List ℕ)) (l : Log) (s t : StateView) (cs : List PlainCommand) (a b : List Op) (o : OpenedWhole (machine given) l s t a) where
  then_ran : (end : Option (StateView × Option Refusal)) → Ran (machine given) k (extended a l) s cs end b → RanAll (machine given) k l s t cs end (a ++ b)
  then_ran end ran = opened_then_ran (machine given) (lawful given) k l s t a o cs end b ran

  call_ran : (status : Status) → IsClaimedStatus status → ((d : Damage) → status ≡ Damaged d → ⊥) → RanAs given k (extended a l) s cs status b → CallTo given k l s t cs status (a ++ b)
  call_ran Done is not ran = (ran.0, then_ran (Some (ran.0, None)) ran.1)
  call_ran (Refused r) is not ran = (ran.0, then_ran (Some (ran.0, Some r)) ran.1)
  call_ran HostFault is not ran = then_ran None ran
  call_ran InboxFault is not ran = then_ran None ran
  call_ran OutOfMemory is not ran = then_ran None ran
  call_ran (Usage p) is not ran = absurd is
  call_ran (Damaged d) is not ran = absurd (not d refl)
  call_ran Busy is not ran = absurd is

-- from an entry
module _ (given : Given) (Told : Option (List ℕ) → Type 0) (told : Told None) (l : Log) (cs : List PlainCommand) (status : Status) (b : List Op) (is : IsClaimedStatus status) (w : RunsClaimed given Told cs status (extended first l) b) (s t : StateView) (entry : Entry store l s t) (apart : Apart given (live_of l) s cs) where
  stands : Open (live_of (extended first l)) s
  stands = subst (λ (m : Files). Open m s) (sym (live_first l)) entry.now

  apart_first : Apart given (live_of (extended first l)) s cs
  apart_first = subst (λ (m : Files). Apart given m s cs) (sym (live_first l)) apart

  not_damaged : (d : Damage) → status ≡ Damaged d → ⊥
  not_damaged d e = ((w.damaged d e).1 apart_first.texts).0 s (stored_sound (live_of (extended first l)) s (open_stored (live_of (extended first l)) s stands))

  call_claimed : (k : Option (List ℕ)) × Told k × CallTo given k l s t cs status (Claim true ∷ Barrier ∷ b)
  call_claimed = elim (w.went s (durable_first l) stands apart_first) [
    | inl broke ↦ (
      None,
      told,
      call_fault given l s t cs status (Claim true ∷ Barrier ∷ b) broke.fault
          (broke_opening (machine given) (lawful given) None l s t cs (Claim true ∷ Barrier ∷ b) (opened_more (machine given) l s t entry b broke.keeps broke.serves (opening_sets given l s b broke.only) (opening_more l s b broke.only))),
    )
    | inr went ↦
        let a = went.opening in
        let o = opened_whole (machine given) l s t entry a went.keeps went.serves (opening_sets given l s a went.only) (opening_more l s a went.only) went.ready in
        let k = went.ran.0 in (
          k,
          went.ran.1,
          subst (λ (x : List Op). CallTo given k l s t cs status (Claim true ∷ Barrier ∷ x)) went.cut
              (call_ran given k l s t cs (Claim true ∷ Barrier ∷ a) went.rest o status is not_damaged (subst (λ (m : Log). RanAs given k m s cs status went.rest) (extended-append first a l) went.ran.2)),
        )
  ]

got_not : (b : List Op) → (Claim true ∷ b) ≡ Claim false ∷ [] → ⊥
got_not b e = let same : Claim true ≡ Claim false = cc in let no : true ≡ false = cc in cc

not_busy : (status : Status) → IsClaimedStatus status → status ≡ Busy → ⊥
not_busy status is e = subst IsClaimedStatus e is

-- a call that has the store
pub called_claimed : (given : Given) (Told : Option (List ℕ) → Type 0) → Told None → (cs : List PlainCommand) (status : Status) (l : Log) (a b : List Op) → a ≡ first → IsClaimedStatus status → RunsClaimed given Told cs status (extended a l) b → Called given Told cs status l (a ++ b)
called_claimed given Told told cs status l a b begun is claimed = subst (λ (x : List Op). RunsClaimed given Told cs status (extended x l) b → Called given Told cs status l (x ++ b)) (sym begun) go claimed
  where
    go : RunsClaimed given Told cs status (extended first l) b → Called given Told cs status l (Claim true ∷ Barrier ∷ b)
    go w = record {
      first = inr (refl, (tt, w.work));
      busy = (λ e. absurd (not_busy status is e), λ e. absurd (got_not (Barrier ∷ b) e));
      damaged = λ d e. let x = w.damaged d e in (ap (λ (o : List Op). Claim true ∷ Barrier ∷ o) x.0, subst (λ (f : Files). RootApart f → SoundForNone f × IsDamage f d) (live_first l) x.1);
      none = λ none got. w.none (subst SoundForNone (sym (live_first l)) none);
      refused = λ q e. let x = w.refused q e in (x.0, subst (λ (f : Files). (s : StateView) → Sound f s → RootApart f → EndsWith given Told s cs status) (live_first l) x.1);
      run = λ s t entry apart. call_claimed given Told told l cs status b is w s t entry apart;
    }

-- a call that another run keeps from the store
pub called_busy : (given : Given) (Told : Option (List ℕ) → Type 0) → Told None → (cs : List PlainCommand) (l : Log) (ops : List Op) → ops ≡ Claim false ∷ [] → Called given Told cs Busy l ops
called_busy given Told told cs l ops is = subst (λ (x : List Op). Called given Told cs Busy l x) (sym is) (record {
  first = inl (refl, refl);
  busy = (λ e. refl, λ e. refl);
  damaged = λ d e. absurd (cc);
  none = λ none got. absurd (got_not got.0 (sym got.1));
  refused = λ q e. absurd (cc);
  run = λ s t entry apart. (None, told, (refl, broke_opening (machine given) (lawful given) None l s t cs (Claim false ∷ []) (opened_claimed (machine given) l s t entry false (record { kinds = (tt, tt); once = tt }) (λ no. no))));
})

-- a call that broke off at its claim or before
module _ (given : Given) (Told : Option (List ℕ) → Type 0) (told : Told None) (cs : List PlainCommand) (status : Status) (l : Log) (is : IsFault status) where
  not_now : {A : Type 0} (d : Status) → (IsFault d → ⊥) → status ≡ d → A
  not_now d never e = absurd (never (subst IsFault e is))

  called_none : Called given Told cs status l []
  called_none = record {
    first = tt;
    busy = (λ e. not_now Busy (λ no. no) e, λ e. absurd (cc));
    damaged = λ d e. not_now (Damaged d) (λ no. no) e;
    none = λ none got. fault_or status is;
    refused = λ q e. not_now (Refused q) (λ no. no) e;
    run = λ s t entry apart. (None, told, call_fault given l s t cs status [] is (broke_opening (machine given) (lawful given) None l s t cs [] (opened_none (machine given) l s t entry (record { kinds = tt; once = tt }))));
  }

  called_got : Called given Told cs status l (Claim true ∷ [])
  called_got = record {
    first = inr (refl, tt);
    busy = (λ e. not_now Busy (λ no. no) e, λ e. absurd (got_not [] e));
    damaged = λ d e. not_now (Damaged d) (λ no. no) e;
    none = λ none got. fault_or status is;
    refused = λ q e. not_now (Refused q) (λ no. no) e;
    run = λ s t entry apart. (None, told, call_fault given l s t cs status (Claim true ∷ []) is (broke_opening (machine given) (lawful given) None l s t cs (Claim true ∷ []) (opened_claimed (machine given) l s t entry true (record { kinds = (tt, tt); once = tt }) (λ no. no))));
  }

  pub called_fault : (ops : List Op) → (ops ≡ []) ⊎ (ops ≡ Claim true ∷ []) → Called given Told cs status l ops
  called_fault ops (inl e) = subst (λ (x : List Op). Called given Told cs status l x) (sym e) called_none
  called_fault ops (inr e) = subst (λ (x : List Op). Called given Told cs status l x) (sym e) called_got

-- words ask for one list at most
one_list : (words : List (List ℕ)) (cs ds : List PlainCommand) → asked words ≡ Some cs → asked words ≡ Some ds → cs ≡ ds
one_list words cs ds a b = let same : Some cs ≡ Some ds = sym a ∙ b in cc

no_list : {A : Type 0} (words : List (List ℕ)) (cs : List PlainCommand) → asked words ≡ Some cs → words_spell.commands words ≡ None → A
no_list words cs a b = absurd (let no : Some cs ≡ None = sym a ∙ ap (option_map (λ commands. if words_spell.is_first (codes "demo") words then of_other db_cleanup ∷ [] else commands)) b in cc)

-- words that spell commands
module _ (given : Given) (Told : Option (List ℕ) → Type 0) (words : List (List ℕ)) (cs : List PlainCommand) (found : asked words ≡ Some cs) (HostRose InboxRose : Type 0) (status : Status) (host : status ≡ HostFault → HostRose) (inbox : status ≡ InboxFault → InboxRose) (l : Log) (ops : List Op) (w : Called given Told cs status l ops) where
  run_answer : (k : Option (List ℕ)) (status : Status) → (status ≡ HostFault → HostRose) → (status ≡ InboxFault → InboxRose) → ¬ HostRose → ¬ InboxRose → GotClaim ops → (s t : StateView) → CallTo given k l s t cs status ops → IsRunAnswer status
  run_answer k Done h i nh ni got s t call = tt
  run_answer k (Refused r) h i nh ni got s t call = tt
  run_answer k OutOfMemory h i nh ni got s t call = tt
  run_answer k HostFault h i nh ni got s t call = nh (h refl)
  run_answer k InboxFault h i nh ni got s t call = ni (i refl)
  run_answer k (Usage p) h i nh ni got s t call = call
  run_answer k (Damaged d) h i nh ni got s t call = call
  run_answer k Busy h i nh ni got s t call = got_not got.0 (sym got.1 ∙ call.0)

  damaged_answer : (status : Status) → (status ≡ HostFault → HostRose) → ¬ HostRose → IsDamagedOrFault status → IsDamagedAnswer status
  damaged_answer (Damaged d) h nh is = tt
  damaged_answer OutOfMemory h nh is = tt
  damaged_answer HostFault h nh is = nh (h refl)
  damaged_answer InboxFault h nh is = is
  damaged_answer Done h nh is = is
  damaged_answer (Refused r) h nh is = is
  damaged_answer (Usage p) h nh is = is
  damaged_answer Busy h nh is = is

  pub called_with : CalledWith words given Told HostRose InboxRose status l ops
  called_with = record {
    usage = λ none. no_list words cs found none;
    called = λ ds d. subst (λ (x : List PlainCommand). Called given Told x status l ops) (one_list words cs ds found d) w;
    answers = λ ds d nh ni got s t entry apart. let r = w.run s t entry (subst (Apart given (live_of l) s) (one_list words ds cs d found) apart) in run_answer r.0 status host inbox nh ni got s t r.2;
    damaged = λ ds d nh got none. damaged_answer status host nh (w.none none got);
  }

-- words that spell none
pub told_with : (given : Given) (Told : Option (List ℕ) → Type 0) (words : List (List ℕ)) (place : ℕ) → IsUsagePlace words place → (HostRose InboxRose : Type 0) (status : Status) (l : Log) (ops : List Op) → TellsUsage place status ops → CalledWith words given Told HostRose InboxRose status l ops
told_with given Told words place is H I status l ops w = record {
  usage = λ none. record { first = w.first; usage = w.usage; front = inr (place, is, w.front) };
  called = λ ds d. no_list words ds d is.0;
  answers = λ ds d nh ni got s t entry apart. no_list words ds d is.0;
  damaged = λ ds d nh got none. no_list words ds d is.0;
}

-- want of memory for the commands
pub unread_with : (given : Given) (Told : Option (List ℕ) → Type 0) → Told None → (words : List (List ℕ)) (HostRose InboxRose : Type 0) (l : Log) → CalledWith words given Told HostRose InboxRose OutOfMemory l []
unread_with given Told told words H I l = record {
  usage = λ none. record { first = tt; usage = λ place e. absurd (cc); front = inl refl };
  called = λ ds d. called_fault given Told told ds OutOfMemory l tt [] (inl refl);
  answers = λ ds d nh ni got s t entry apart. tt;
  damaged = λ ds d nh got none. tt;
}

pub says_none : {T E : Type 0} (place : ℕ) (r : Result T E) (e : E) → r ≡ Err e → SaysUsage place r []
says_none place r e is = record { first = tt; whole = subst (λ v. let none : List Op = [] in OnOk v (none ≡ Say (usage_line place) ∷ [])) (sym is) tt; front = (usage_line place, refl) }

pub says_so : (T : Type 0) (place : ℕ) (bytes : List ℕ) (r : Result T HostErr) (b : List Op) → bytes ≡ usage_line place → Did (Say bytes) r b → SaysUsage place r b
says_so T place bytes r b is did = record { first = words_each IsSaid (λ x. tt) b (say_words bytes r b did); whole = go r did; front = front r did }
  where
    go : (v : Result T HostErr) → Did (Say bytes) v b → OnOk v (b ≡ Say (usage_line place) ∷ [])
    go (Ok v) d = d ∙ ap (λ (x : List ℕ). Say x ∷ []) is
    go (Err e) d = tt

    none : b ≡ [] → IsFront (said b) (usage_line place)
    none e = (usage_line place, ap (λ (o : List Op). said o ++ usage_line place) (sym e))

    front : (v : Result T HostErr) → Did (Say bytes) v b → IsFront (said b) (usage_line place)
    front (Ok v) d = ([], sym (append-nil (said b) ∙ ap said d ∙ append-nil bytes ∙ is))
    front (Err Failed) d = elim d [
      | inl e ↦ none e
      | inr e ↦ (drop e.0 bytes, sym is ∙ sym (take-append-drop e.0 bytes) ∙ ap (λ (x : List ℕ). x ++ drop e.0 bytes) (sym (ap said e.1 ∙ append-nil (take e.0 bytes))))
    ]
    front (Err NoMemory) d = none d

pub tells_usage : {T E : Type 0} (place : ℕ) (v : T) (ops : List Op) → SaysUsage {E = E} place (Ok v) ops → TellsUsage place (Usage place) ops
tells_usage place v ops w = record { first = w.first; usage = λ p is. let one : place ≡ p = cc in subst (λ (x : ℕ). ops ≡ Say (usage_line x) ∷ []) one w.whole; front = w.front }

pub tells_other : {T E : Type 0} (place : ℕ) (r : Result T E) (status : Status) (ops : List Op) → ((p : ℕ) → status ≡ Usage p → ⊥) → SaysUsage place r ops → TellsUsage place status ops
tells_other place r status ops other w = record { first = w.first; usage = λ p is. absurd (other p is); front = w.front }

-- a fault of the host is one of an opening, and no end
pub fault_no_end : (status : Status) → IsFault status → IsEnd status → ⊥
fault_no_end Done is end = is
fault_no_end (Refused r) is end = is
fault_no_end status is end = end

pub load_no_end : (fault : LoadFault) → IsEnd (status_of_load fault) → ⊥
load_no_end (faults.Damaged d) end = end
load_no_end faults.HostFault end = end
load_no_end faults.OutOfMemory end = end

pub usage_no_end : (status : Status) → IsUsageAnswer status → IsEnd status → ⊥
usage_no_end Done is end = is
usage_no_end (Refused r) is end = is
usage_no_end status is end = end

pub fault_no_usage : (status : Status) (p : ℕ) → IsFault status → status ≡ Usage p → ⊥
fault_no_usage status p is e = subst IsFault e is

-- words leave a store as it was
image_words : (ops : List Op) (l : Log) (f : Files) → EachOp IsSaid ops → Image (extended ops l) f → Image l f
image_words [] l f each image = subst (λ (x : Log). Image x f) (extended-none l) image
image_words (Say b ∷ ops) l f each image =
    image_said l b f (image_words ops (extended (Say b ∷ []) l) f each.1 (subst (λ (x : Log). Image x f) (sym (extended-append (Say b ∷ []) ops l)) image))
image_words (Create q ∷ ops) l f each image = absurd each.0
image_words (Append q b ∷ ops) l f each image = absurd each.0
image_words (Sync q ∷ ops) l f each image = absurd each.0
image_words (Rename x y ∷ ops) l f each image = absurd each.0
image_words (Remove q ∷ ops) l f each image = absurd each.0
image_words (Barrier ∷ ops) l f each image = absurd each.0
image_words (Claim b ∷ ops) l f each image = absurd each.0

live_words : (ops : List Op) (l : Log) → EachOp IsSaid ops → live_of (extended ops l) ≡ live_of l
live_words [] l each = ap live_of (extended-none l)
live_words (Say b ∷ ops) l each = ap live_of (sym (extended-append (Say b ∷ []) ops l)) ∙ live_words ops (extended (Say b ∷ []) l) each.1 ∙ live_said l b
live_words (Create q ∷ ops) l each = absurd each.0
live_words (Append q b ∷ ops) l each = absurd each.0
live_words (Sync q ∷ ops) l each = absurd each.0
live_words (Rename x y ∷ ops) l each = absurd each.0
live_words (Remove q ∷ ops) l each = absurd each.0
live_words (Barrier ∷ ops) l each = absurd each.0
live_words (Claim b ∷ ops) l each = absurd each.0

-- a front of words is words
front_words : (before after ops : List Op) → before ++ after ≡ ops → EachOp IsSaid ops → EachOp IsSaid before
front_words [] after ops e each = tt
front_words (b ∷ before) after [] e each = absurd (cc)
front_words (b ∷ before) after (op ∷ ops) e each =
    let head : b ≡ op = cc in
    let tail : before ++ after ≡ ops = cc in
    (subst IsSaid (sym head) each.0, front_words before after ops tail each.1)

pub law_of_words : LawOfWords
law_of_words l s t ops entry each = (
  record { now = subst (λ (f : Files). Open f s) (sym (live_words ops l each)) entry.now; images = λ f image. entry.images f (image_words ops l f each image) },
  λ before after e f image. elim (entry.images f (image_words before l f (front_words before after ops e each) image)) [ inl x ↦ inl (begun store f s x) | inr x ↦ inr (begun store f t x) ],
)

-- a store with no file holds the empty state
pub law_of_empty_store : LawOfEmptyStore
law_of_empty_store = begun store (λ path. None) empty empty_open

-- ---- what the words ask for
asked_from : (words : List (List ℕ)) (cs : List PlainCommand) → words_spell.commands words ≡ Some cs → (b : Bool) → words_spell.is_first (codes "demo") words ≡ b → asked words ≡ Some (if b then of_other db_cleanup ∷ [] else cs)
asked_from words cs found b is =
    ap (option_map (λ commands. if words_spell.is_first (codes "demo") words then of_other db_cleanup ∷ [] else commands)) found ∙ ap (λ (x : Bool). Some (if x then of_other db_cleanup ∷ [] else cs)) is

pub asked_all : (words : List (List ℕ)) (cs : List PlainCommand) → words_spell.commands words ≡ Some cs → words_spell.is_first (codes "demo") words ≡ false → asked words ≡ Some cs
asked_all words cs found is = asked_from words cs found false is

pub asked_one : (words : List (List ℕ)) (cs : List PlainCommand) → words_spell.commands words ≡ Some cs → words_spell.is_first (codes "demo") words ≡ true → asked words ≡ Some (of_other db_cleanup ∷ [])
asked_one words cs found is = asked_from words cs found true is
