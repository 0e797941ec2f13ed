-- What a command comes to, and the files that it takes in.
use Rattle.std.proofs.Common.{◌≡◌, ◌⊎◌, inl, inr, ℕ, ℤ, ◌≤◌, List, [], ◌∷◌, ◌++◌, length, All, slice_index_or, Option, Some, None, IsSome, IfSome, IfOk, Result, Ok, Err, unwrap_or, refl, sym, ◌∙◌, ap, subst, arith}
use Rattle.std.proofs.lemmas.List.Elements.{All-contains}
use Rattle.ap_host.specs.declared.host.Op.{Op}
use Rattle.ap_host.specs.Disk.{Path, Files, Log, extended, live_of}
use Rattle.ap_host.proofs.DiskLemmas.{extended-none}
use Rattle.command_words.specs.Plain.{PlainCommand}
use Rattle.run_model.specs.Run.{Outcome}
use Rattle.stage_file.specs.Stage.{StageState, IsInStep}
use Rattle.package_core.specs.Card.{Card}
use Rattle.hash_pool.specs.Names.{pool_name, IsNamed}
use Rattle.hash_pool.specs.Growth.{PoolGrows}
use Rattle.hash_pool.proofs.NameLemmas.{name_not_staged}
use Rattle.hash_pool.proofs.GrowthLemmas.{grows_none, grows_whole, law_of_growth}
use Rattle.machine_state.specs.declared.refusal.Refusal.{Refusal}
use Rattle.machine_state.specs.declared.arrived.Arrived.{Arrived}
use Rattle.machine_state.specs.declared.arrived.Arrived.TheVariants as arrivals
use Rattle.machine_state.specs.declared.arrived.UpdateFault.{UpdateFault}
use Rattle.machine_state.specs.declared.arrived.UpdateFault.TheVariants as updates
use Rattle.machine_state.specs.State.{Valid, mirror_of}
use Rattle.machine_state.specs.Values.{MirrorView, StateView}
use Rattle.package_intake.specs.Answers.{IsArrival, Comes, AddsNamed, IfList}
use Rattle.package_intake.specs.Additions.{Fills}
use Rattle.hash_pool.specs.Bodies.{HasBody, IsMet, DigestsApart}
use Rattle.reply_text.specs.Refusals.{refusal_line}
use Rattle.step_model.specs.declared.reading.Reading.{Reading}
use Rattle.step_model.specs.declared.reading.Reading.TheVariants as readings
use Rattle.step_model.specs.Answers.{IsTold, Told}
use Rattle.step_model.specs.Lawful.{list_in}
use Rattle.step_model.specs.Case.{Case}
use Rattle.step_model.specs.Refuses.{Refuses}
use Rattle.machine_step.specs.declared.outcome.Outcome.{Outcome as Made}
use Rattle.machine_step.specs.Answers.{seen}
use Rattle.step_model.specs.Refuses.{IsReadable}
use Rattle.mirror_update.specs.Answers.{Brings, Updates}
use Rattle.mirror_ops.specs.Cases.{MirrorArrives}
use Rattle.machine_step.specs.Step.{CanBeRead, Given, MayArrive, NoArchive, Step, StepWith, case_of, read_for}
use Rattle.machine_step.proofs.ArchiveLemmas.{archive_any, refused_archive}
use Rattle.machine_step.proofs.StepLaws.{knows, readable, refuses}
use Rattle.aptly_core.specs.declared.fault.RunFault.{RunFault}
use Rattle.aptly_core.specs.Arrives.{Arrives, Decides, IsReading, arrived_of}
use Rattle.aptly_core.specs.Apart.{BodiesApart}
use Rattle.catalogue_root.specs.Store.{Stored}

-- ---- nothing was read
apart_none : (input : Option Files) (l : Log) → BodiesApart input (live_of l) → BodiesApart input (live_of (extended [] l))
apart_none input l w = subst (λ (x : Log). BodiesApart input (live_of x)) (sym (extended-none l)) w

step_none : (st : StageState) (l : Log) → IsInStep st l → IsInStep st (extended [] l)
step_none st l w = subst (IsInStep st) (sym (extended-none l)) w

pub arrives_nothing : (input : Option Files) (s : StateView) (reading : Reading) (st : StageState) (l : Log) → Arrives input s reading st st (Ok arrivals.Nothing) l []
arrives_nothing input s reading st l = record {
  grows = grows_none l;
  nothing = λ is. refl;
  step = step_none st l;
  apart = apart_none input l;
  bodies = λ stored apart k d lt. absurd (omega (arith, lt));
}

-- a mirror isn't there
pub arrives_refused : (input : Option Files) (s : StateView) (reading : Reading) (st : StageState) (refusal : Refusal) (l : Log) → Arrives input s reading st st (Ok (arrivals.Refused refusal)) l []
arrives_refused input s reading st refusal l = record {
  grows = grows_none l;
  nothing = λ is. refl;
  step = step_none st l;
  apart = apart_none input l;
  bodies = λ stored apart k d lt. absurd (omega (arith, lt));
}

pub decides_err : (Fits : Type 0) (given : Given) (s : StateView) (c : PlainCommand) (st : StageState) (r : Result Made RunFault) (e : RunFault) → r ≡ Err e → (l : Log) → Decides Fits given s c st st r l []
decides_err Fits given s c st r e is l = subst (λ v. Decides Fits given s c st st v l []) (sym is) (record { grows = grows_none l; nothing = λ fits none. refl; step = step_none st l; apart = apart_none given.inbox l; bodies = tt })

-- a command that is refused before anything is read, with a state that stays
pub decides_refused : (Fits : Type 0) (given : Given) (s : StateView) (c : PlainCommand) (st : StageState) (out : Made) → out.state ≡ None → (l : Log) → Decides Fits given s c st st (Ok out) l []
decides_refused Fits given s c st out none l = record {
  grows = grows_none l;
  nothing = λ fits none. refl;
  step = step_none st l;
  apart = apart_none given.inbox l;
  bodies = λ fits stored apart. subst (λ (x : Option StateView). IfSome x (λ t. All (HasBody (live_of (extended [] l))) t.known)) (sym none) tt;
}

-- ---- a folder or an archive was read
abbrev pub HoldsOf : Option Files → StateView → Log → List Op → List Card → Type 0
HoldsOf input s l ops list = (inbox : Files) → input ≡ Some inbox → IsNamed (live_of l) → All (HasBody (live_of l)) s.known → DigestsApart (live_of l) inbox → All (HasBody (live_of (extended ops l))) list

-- what stands in the pool behind the arrival stood there, or is a file of the inbox
met_before : (inbox : Files) (l : Log) (ops : List Op) → Fills inbox l (extended ops l) → (bytes : List ℕ) → IsMet (live_of (extended ops l)) inbox bytes → IsMet (live_of l) inbox bytes
met_before inbox l ops fills bytes (inr w) = inr w
met_before inbox l ops fills bytes (inl w) = elim (fills w.0 w.1) [
  | inl same ↦ inl (w.0, w.1, sym same ∙ w.2)
  | inr new ↦ inr (new.0, new.2 ∙ sym new.4 ∙ w.2)
]

pub arrives_added : (AreNames : List Path → Type 0) (input : Option Files) (s : StateView) (reading : Reading) → (reading ≡ readings.Nothing → ⊥) → (before now : StageState) (given : Result Arrived UpdateFault) (r : Result Arrived RunFault) → r ≡ arrived_of given → (l : Log) (ops : List Op) → AddsNamed AreNames input s.known given before now l ops → Arrives input s reading before now r l ops
arrives_added AreNames input s reading reads before now given r is l ops w = subst (λ v. Arrives input s reading before now v l ops) (sym is) (record {
  grows = w.grows;
  nothing = λ is. absurd (reads is);
  step = w.step;
  apart = λ apart. record {
    inbox = apart.inbox;
    told = apart.told;
    apart = λ a b x y. apart.apart a b (met_before apart.inbox l ops (w.fills apart.inbox apart.told) a x) (met_before apart.inbox l ops (w.fills apart.inbox apart.told) b y);
  };
  bodies = go given w.bodies;
})
  where
    nothing : All (HasBody (live_of (extended ops l))) []
    nothing k d lt = absurd (omega (arith, lt))

    go : (given : Result Arrived UpdateFault) → IfList given (HoldsOf input s l ops) → IfOk (arrived_of given) (λ arrived. Stored (live_of l) s → BodiesApart input (live_of l) → All (HasBody (live_of (extended ops l))) (list_in arrived))
    go (Ok (arrivals.List list date)) h = λ stored apart. h apart.inbox apart.told stored.named stored.bodies apart.apart
    go (Ok arrivals.Nothing) h = λ stored apart. nothing
    go (Ok (arrivals.Refused refusal)) h = λ stored apart. nothing
    go (Err (updates.Refused refusal)) h = λ stored apart. nothing
    go (Err updates.HostFault) h = tt
    go (Err updates.InboxFault) h = tt
    go (Err updates.OutOfMemory) h = tt

-- what may arrive of it
pub arrived_may : (input : Option Files) (s : StateView) (name folder : List ℕ) (given : Result Arrived UpdateFault) (r : Result Arrived RunFault) → r ≡ arrived_of given → (length folder ≤ 200 → Comes input s name folder given) → IfOk r (λ arrived. length folder ≤ 200 → IsArrival input s name folder arrived)
arrived_may input s name folder given r is comes = subst (λ v. IfOk v (λ arrived. length folder ≤ 200 → IsArrival input s name folder arrived)) (sym is) (go given comes)
  where
    go : (given : Result Arrived UpdateFault) → (length folder ≤ 200 → Comes input s name folder given) → IfOk (arrived_of given) (λ arrived. length folder ≤ 200 → IsArrival input s name folder arrived)
    go (Ok (arrivals.List list date)) h = h
    go (Ok arrivals.Nothing) h = λ short. absurd (h short)
    go (Ok (arrivals.Refused refusal)) h = λ short. absurd (h short)
    go (Err (updates.Refused refusal)) h = h
    go (Err updates.HostFault) h = tt
    go (Err updates.InboxFault) h = tt
    go (Err updates.OutOfMemory) h = tt

-- a folder that was read may so arrive
pub folder_may : (given : Given) (large : Option (List ℕ)) (s : StateView) (reading : Reading) (name folder : List ℕ) (r : Result Arrived RunFault) → reading ≡ readings.Folder name folder → IsReadable reading
    → IfOk r (λ arrived. length folder ≤ 200 → IsArrival given.inbox s name folder arrived) → IfOk r (MayArrive given large s reading)
folder_may given large s reading name folder r is short h = subst (λ (x : Reading). IfOk r (MayArrive given large s x)) (sym is) (by_result r h)
  where
    by_result : (r : Result Arrived RunFault) → IfOk r (λ arrived. length folder ≤ 200 → IsArrival given.inbox s name folder arrived) → IfOk r (IsArrival given.inbox s name folder)
    by_result (Ok arrived) f = f (subst IsReadable is short)
    by_result (Err fault) f = tt

-- ---- what a new state knows was known, or arrived
known_all : (P : Card → Type 0) (now : ℤ) (large : Option (List ℕ)) (s : StateView) (c : PlainCommand) (arrived : Arrived) (o : Outcome StateView Refusal) → StepWith now large s c arrived o → All P s.known → All P (list_in arrived) → All P o.state.known
known_all P now large s c arrived o step old new k d lt =
    elim ((knows now large s c arrived o step).0 k d lt) [
      | inl had ↦ All-contains P s.known (slice_index_or o.state.known k d) old had
      | inr came ↦ All-contains P (list_in arrived) (slice_index_or o.state.known k d) new came
    ]

-- what is in the pool stays there
pub stays_all : (l : Log) (ops : List Op) (ps : List Card) → PoolGrows l ops → All (HasBody (live_of l)) ps → All (HasBody (live_of (extended ops l))) ps
stays_all l ops ps grows all k d lt =
    let p = slice_index_or ps k d in
    let b = all k d lt in
    record { bytes = b.bytes; file = law_of_growth.stays l (extended ops l) (pool_name p.said.sha256) (grows_whole l ops grows) (name_not_staged p.said.sha256) (subst IsSome (sym b.file) refl) ∙ b.file; said = b.said }

-- a reading of a command that reads nothing
reads_nothing : (now : ℤ) (s : StateView) (c : PlainCommand) (reading : Reading) → reading ≡ read_for now s c → read_for now s c ≡ readings.Nothing → reading ≡ readings.Nothing
reads_nothing now s c reading is none = is ∙ none

-- what arrived was decided on
pub decides_so : (Fits : Type 0) (reading : Reading) (given : Given) (s : StateView) (c : PlainCommand) (before now : StageState) (arrived : Arrived) (out : Made) → (Fits → IsReading given.now s c reading) → (Fits → Valid s → (large : Option (List ℕ)) × StepWith given.now large s c arrived (seen s out)) → (l : Log) (ops : List Op) → Arrives given.inbox s reading before now (Ok arrived) l ops → Decides Fits given s c before now (Ok out) l ops
decides_so Fits reading given s c before now arrived out so step l ops w = record {
  grows = w.grows;
  nothing = λ fits none. w.nothing (reads_nothing given.now s c reading (so fits) none);
  step = w.step;
  apart = w.apart;
  bodies = λ fits stored apart. let went = step fits stored.held.valid in go out.state (known_all (HasBody (live_of (extended ops l))) given.now went.0 s c arrived (seen s out) went.1 (stays_all l ops s.known w.grows stored.bodies) (w.bodies stored apart));
}
  where
    go : (n : Option StateView) → All (HasBody (live_of (extended ops l))) (unwrap_or n s).known → IfSome n (λ t. All (HasBody (live_of (extended ops l))) t.known)
    go None all = tt
    go (Some t) all = all

-- the state stays, whatever arrived
pub decides_kept : (Fits : Type 0) (reading : Reading) (given : Given) (s : StateView) (c : PlainCommand) (before now : StageState) (came : Result Arrived RunFault) (out : Made) → (Fits → IsReading given.now s c reading) → out.state ≡ None → (l : Log) (ops : List Op) → Arrives given.inbox s reading before now came l ops → Decides Fits given s c before now (Ok out) l ops
decides_kept Fits reading given s c before now came out so none l ops w = record {
  grows = w.grows;
  nothing = λ fits read. w.nothing (reads_nothing given.now s c reading (so fits) read);
  step = w.step;
  apart = w.apart;
  bodies = λ fits stored apart. subst (λ (x : Option StateView). IfSome x (λ t. All (HasBody (live_of (extended ops l))) t.known)) (sym none) tt;
}

-- it broke off behind what arrived
pub decides_broke : (Fits : Type 0) (reading : Reading) (given : Given) (s : StateView) (c : PlainCommand) (before now : StageState) (came : Result Arrived RunFault) (r : Result Made RunFault) (e : RunFault) → (Fits → IsReading given.now s c reading) → r ≡ Err e → (l : Log) (ops : List Op) → Arrives given.inbox s reading before now came l ops → Decides Fits given s c before now r l ops
decides_broke Fits reading given s c before now came r e so is l ops w = subst (λ v. Decides Fits given s c before now v l ops) (sym is) (record { grows = w.grows; nothing = λ fits none. w.nothing (reads_nothing given.now s c reading (so fits) none); step = w.step; apart = w.apart; bodies = tt })

-- what is so of a command of which the one holds is so of one of which the other does
pub decides_of : (Fits Other : Type 0) (given : Given) (s : StateView) (c : PlainCommand) (before now : StageState) (r : Result Made RunFault) → (Other → Fits) → (l : Log) (ops : List Op) → Decides Fits given s c before now r l ops → Decides Other given s c before now r l ops
decides_of Fits Other given s c before now r fits l ops w = record { grows = w.grows; nothing = λ valid none. w.nothing (fits valid) none; step = w.step; apart = w.apart; bodies = go r w.bodies }
  where
    go : (v : Result Made RunFault) → IfOk v (λ outcome. Fits → Stored (live_of l) s → BodiesApart given.inbox (live_of l) → IfSome outcome.state (λ next. All (HasBody (live_of (extended ops l))) next.known))
        → IfOk v (λ outcome. Other → Stored (live_of l) s → BodiesApart given.inbox (live_of l) → IfSome outcome.state (λ next. All (HasBody (live_of (extended ops l))) next.known))
    go (Ok out) h = λ valid stored apart. h (fits valid) stored apart
    go (Err e) h = tt

-- ---- what a command comes to

-- what can be read and is no archive
readable_of : (case : Case) (r : Reading) → NoArchive r → CanBeRead case r → IsReadable r
readable_of case readings.Nothing none can = can
readable_of case (readings.Folder name folder) none can = can
readable_of case (readings.Mirror name) none can = absurd none

-- what arrived may arrive for the command
pub may_arrive : (given : Given) (large : Option (List ℕ)) (s : StateView) (c : PlainCommand) (reading : Reading) (arrived : Arrived) → NoArchive reading → reading ≡ read_for given.now s c → (IsReadable reading → MayArrive given large s reading arrived) → MayArrive given large s (read_for given.now s c) arrived
may_arrive given large s c reading arrived none is arrives =
    subst (λ (x : Reading). MayArrive given large s x arrived) is
    (arrives (readable_of (case_of given.now s c) reading none (subst (CanBeRead (case_of given.now s c)) (sym is) (readable given.now s c))))

-- it is no archive
pub no_archive : (r : Reading) → ((name : List ℕ) → r ≡ readings.Mirror name → ⊥) → NoArchive r
no_archive readings.Nothing h = tt
no_archive (readings.Folder name folder) h = tt
no_archive (readings.Mirror name) h = absurd (h name refl)

-- what an update brings may arrive of the archive of the mirror
pub archive_may : (large : Option (List ℕ)) (inbox : Option Files) (s : StateView) (mirror : MirrorView) (name : List ℕ) (given : Result Arrived UpdateFault) → Brings (Updates large inbox s mirror) given → IfOk (arrived_of given) (MirrorArrives large inbox s name (Some mirror))
archive_may large inbox s mirror name (Ok (arrivals.List list date)) h = h
archive_may large inbox s mirror name (Ok arrivals.Nothing) h = absurd h
archive_may large inbox s mirror name (Ok (arrivals.Refused refusal)) h = absurd h
archive_may large inbox s mirror name (Err (updates.Refused refusal)) h = h
archive_may large inbox s mirror name (Err updates.HostFault) h = tt
archive_may large inbox s mirror name (Err updates.InboxFault) h = tt
archive_may large inbox s mirror name (Err updates.OutOfMemory) h = tt

-- the same of a call to which a pattern builder was handed in
pub fetched_may : (old new : ℕ) (refused : Option (List ℕ)) (given : Given) (s : StateView) (name : List ℕ) (mirror : MirrorView) (update : Result Arrived UpdateFault) (r : Result Arrived RunFault) → r ≡ arrived_of update → mirror_of name s.mirrors ≡ Some mirror
    → Told old new refused (λ large. Brings (Updates large given.inbox s mirror) update) → IfOk r (λ arrived. Told old new refused (λ large. MayArrive given large s (readings.Mirror name) arrived))
fetched_may old new refused given s name mirror update r is found told = subst (λ v. IfOk v (λ arrived. Told old new refused (λ large. MayArrive given large s (readings.Mirror name) arrived))) (sym is) (by_result (arrived_of update) (archive_may told.0 given.inbox s mirror name update told.2))
  where
    by_result : (v : Result Arrived RunFault) → IfOk v (MirrorArrives told.0 given.inbox s name (Some mirror)) → IfOk v (λ arrived. Told old new refused (λ large. MayArrive given large s (readings.Mirror name) arrived))
    by_result (Ok arrived) h = (told.0, told.1, subst (λ (o : Option MirrorView). MirrorArrives told.0 given.inbox s name o arrived) (sym found) h)
    by_result (Err fault) h = tt

-- a command that is refused before anything is read comes to its refusal
pub refused_early : (given : Given) (old new : ℕ) (large : Option (List ℕ)) (s : StateView) (c : PlainCommand) (r : Refusal) (out : Made) → out ≡ record { state = None; reply = refusal_line r; refusal = Some r } → Told old new large (λ text. Refuses text (case_of given.now s c) (Some r))
    → Told old new large (λ text. Step given text s c (seen s out))
refused_early given old new large s c r out is w = (w.0, w.1, subst (Step given w.0 s c) (sym (ap (seen s) is)) (refuses given w.0 s c r w.2))

-- what is told of a call behind another is told of both
pub told_wider : (old mid new : ℕ) (refused large : Option (List ℕ)) → old ≤ mid → IsTold mid new refused large → IsTold old new refused large
told_wider old mid new refused None le told = tt
told_wider old mid new refused (Some text) le told = (omega (arith, le, told.0), told.1)

pub comes_wider : (given : Given) (old mid new : ℕ) (refused : Option (List ℕ)) (s : StateView) (c : PlainCommand) (r : Result Made RunFault) → old ≤ mid → IfOk r (λ outcome. Told mid new refused (λ large. Step given large s c (seen s outcome))) → IfOk r (λ outcome. Told old new refused (λ large. Step given large s c (seen s outcome)))
comes_wider given old mid new refused s c (Ok out) le w = (w.0, told_wider old mid new refused w.0 le w.1, w.2)
comes_wider given old mid new refused s c (Err e) le w = tt

-- ---- an archive

pub archive_reads : (name : List ℕ) → readings.Mirror name ≡ readings.Nothing → ⊥
archive_reads name e = cc

module _ (given : Given) (s : StateView) (c : PlainCommand) (name : List ℕ) (is : readings.Mirror name ≡ read_for given.now s c) where
  can_read : CanBeRead (case_of given.now s c) (readings.Mirror name)
  can_read = subst (CanBeRead (case_of given.now s c)) (sym is) (readable given.now s c)

  -- what arrived of the archive may arrive for the command
  pub archive_for : (large : Option (List ℕ)) (arrived : Arrived) → MayArrive given large s (readings.Mirror name) arrived → MayArrive given large s (read_for given.now s c) arrived
  archive_for large arrived may = subst (λ (x : Reading). MayArrive given large s x arrived) is may

  -- where the archive is refused the command comes to that
  pub archive_refused : (old new : ℕ) (refused : Option (List ℕ)) (refusal : Refusal) (out : Made) → out ≡ record { state = None; reply = refusal_line refusal; refusal = Some refusal }
      → Told old new refused (λ large. MayArrive given large s (readings.Mirror name) (arrivals.Refused refusal)) → Told old new refused (λ large. Step given large s c (seen s out))
  archive_refused old new refused refusal out e told =
      (told.0, told.1, subst (Step given told.0 s c) (sym (ap (seen s) e)) (refused_archive given told.0 s c name refusal is can_read told.2))

  -- where it isn't the step is made with what arrived
  pub archive_comes : (old mid new : ℕ) (refused before : Option (List ℕ)) (arrived : Arrived) (out : Made) → old ≤ mid → ((refusal : Refusal) → arrived ≡ arrivals.Refused refusal → ⊥)
      → (told : Told old mid before (λ large. MayArrive given large s (readings.Mirror name) arrived)) → Told mid new refused (λ large. StepWith given.now large s c arrived (seen s out)) → Told old new refused (λ large. Step given large s c (seen s out))
  archive_comes old mid new refused before arrived out le none told w =
      (w.0, told_wider old mid new refused w.0 le w.1, (arrived, archive_for w.0 arrived (archive_any given told.0 w.0 s name arrived none told.2), w.2))
