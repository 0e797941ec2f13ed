-- An archive arrives: what is told of it, and that it fits.
use Rattle.std.proofs.Common.{◌≡◌, inl, inr, ℕ, true, List, length, Option, Some, None, Result, Ok, Err, IfErr, refl, sym, ap, ◌∙◌, subst, leb-true}
use Rattle.std.specs.Prelude.{nat_le}
use Rattle.std.specs.Option.{ForSome}
use Rattle.std.specs.Str.{IsUtf8, bytes_eq}
use Rattle.std.proofs.lemmas.Bool.{and_parts}
use Rattle.ap_text.specs.Paths.{is_safe_path}
use Rattle.ap_host.specs.Disk.{Files}
use Rattle.package_core.specs.Card.{Card}
use Rattle.package_list.specs.Lists.{union}
use Rattle.release_file.specs.Release.{ReleaseView, is_date}
use Rattle.machine_state.specs.declared.fetched.Fetched.{Fetched}
use Rattle.machine_state.specs.declared.limit.Limit.TheVariants.{Mirrors, ReleaseBytes}
use Rattle.machine_state.specs.declared.refusal.Refusal.{Refusal}
use Rattle.machine_state.specs.declared.refusal.Refusal.TheVariants.{InputAbsent, InputMalformed, InputMismatch, Limit, PatternTooLarge}
use Rattle.machine_state.specs.declared.arrived.Arrived.{Arrived}
use Rattle.machine_state.specs.declared.arrived.Arrived.TheVariants as arrivals
use Rattle.machine_state.specs.declared.arrived.UpdateFault.{UpdateFault}
use Rattle.machine_state.specs.declared.arrived.UpdateFault.TheVariants as faults
use Rattle.machine_state.specs.Limits.{limit_number}
use Rattle.machine_state.specs.Lists.{IsKnown}
use Rattle.machine_state.specs.Mirrors.{IsMirror, MirrorLists, RepoLists}
use Rattle.machine_state.specs.State.{AreRepos, Valid, mirror_name, mirror_of}
use Rattle.machine_state.specs.Texts.{IsDate}
use Rattle.machine_state.specs.Values.{MirrorView, StateView}
use Rattle.machine_state.proofs.KindLemmas.{kind_changed}
use Rattle.machine_state.proofs.ValidLemmas.{all_so, named_grows, sources_stay, valid_with}
use Rattle.package_intake.specs.Index.{IndexEntry, path_of}
use Rattle.package_intake.specs.Faults.{FaultOfFiles, IsAnyFault, IsInputRefusal, IsOfFiles}
use Rattle.package_intake.specs.Steps.{FaultGives, and_then}
use Rattle.package_intake.proofs.FaultLemmas.{early_differ}
use Rattle.package_intake.proofs.FitLemmas.{known_more}
use Rattle.package_intake.proofs.ListLemmas.{each_of}
use Rattle.package_intake.proofs.TakenLemmas.{find_holds}
use Rattle.mirror_update.specs.Fetch.{FaultMeets, IsFetched, IsShort, distribution_folder, release_path}
use Rattle.mirror_update.specs.Wanted.{wanted_indexes}
use Rattle.mirror_update.specs.Filter.{conditions_of}
use Rattle.step_model.specs.Answers.{Told}
use Rattle.step_model.specs.Refuses.{ArePatterns, IsPick}
use Rattle.mirror_update.specs.Indexes.{FaultOfListed, IndexesSay, IsOfListed}
use Rattle.mirror_update.specs.Arrival.{Arrives, dated, entries_arrive}
use Rattle.mirror_update.specs.Fits.{FitsIn, FitsWith, updated, with_fetched}
use Rattle.mirror_update.specs.Answers.{Brings, FaultOfMirror, FilesArrive, IfFetched, IfRefused, IsArchive, IsArchiveFault, IsArchiveRefusal, IsOfMirror, IsReleaseFault, IsReleaseRefusal, IsSomeRelease, IsUpdateFault, KeepsBut, KeepsText, Updates, chosen_in}

-- ---- what arrives, step by step
module _ (files : Files) (known : List Card) (mirror : MirrorView) where
  pub unfetched : (fault : UpdateFault) → FaultMeets (IsFetched files mirror) fault → FaultMeets (Arrives files known mirror) fault
  unfolding Arrives
  unfetched (faults.Refused refusal) h = (Err refusal, h, refl)
  unfetched faults.HostFault h = tt
  unfetched faults.InboxFault h = tt
  unfetched faults.OutOfMemory h = tt

  pub unread : (release : ReleaseView) (fault : UpdateFault) → IsFetched files mirror (Ok release) → FaultMeets (IndexesSay files mirror release) fault → FaultMeets (Arrives files known mirror) fault
  unfolding Arrives
  unread release (faults.Refused refusal) f h = (Ok release, f, (Err refusal, h, refl))
  unread release faults.HostFault f h = tt
  unread release faults.InboxFault f h = tt
  unread release faults.OutOfMemory f h = tt

  pub untaken : (release : ReleaseView) (entries : List IndexEntry) (fault : UpdateFault) → IsFetched files mirror (Ok release) → IndexesSay files mirror release (Ok entries) → FaultGives fault (entries_arrive files known mirror release entries) → FaultMeets (Arrives files known mirror) fault
  unfolding Arrives
  untaken release entries (faults.Refused refusal) f i h = (Ok release, f, (Ok entries, i, ap (λ r. and_then r (dated release)) (sym h)))
  untaken release entries faults.HostFault f i h = tt
  untaken release entries faults.InboxFault f i h = tt
  untaken release entries faults.OutOfMemory f i h = tt

  pub taken : (release : ReleaseView) (entries : List IndexEntry) (list : List Card) (date : List ℕ) → IsFetched files mirror (Ok release) → IndexesSay files mirror release (Ok entries) → entries_arrive files known mirror release entries ≡ Ok list → date ≡ release.date → Arrives files known mirror (Ok (record { date = date; list = list }))
  unfolding Arrives
  taken release entries list date f i h e =
      (Ok release, f, (Ok entries, i, ap (λ (d : List ℕ). Ok (record { date = d; list = list })) e ∙ ap (λ r. and_then r (dated release)) (sym h)))

-- what an error that is handed on brings
pub brings_err : (P : Result Fetched Refusal → Type 0) (r : Result Arrived UpdateFault) (x y : UpdateFault) → r ≡ Err x → x ≡ y → FaultMeets P y → Brings P r
brings_err P r x y e s h = subst (Brings P) (sym e) (subst (FaultMeets P) (sym s) h)

-- ---- the date
pub date_is : (release : ReleaseView) (date : List ℕ) → IsSomeRelease release → date ≡ release.date → IsUtf8 date → IsDate date
date_is release date said e utf8 =
    let says = said.1.alone.says in
    let is : is_date date ≡ true = ap is_date (e ∙ says.date) ∙ says.date_is in
    let parts = and_parts (nat_le (length date) 200) _ is in
    record { short = leb-true (length date) 200 parts.0; line = parts.1; utf8 = utf8 }

-- ---- the state
pub fits_state : (state : StateView) (name : List ℕ) (fetched : Fetched) → Valid state → FitsWith state.known fetched → FitsIn state name fetched
fits_state state name fetched v f =
    let more = union state.known fetched.list in
    let grows : (p : Card) → IsKnown state.known p → IsKnown more p = λ p. known_more state.known fetched.list p v.known.sorted in
    let repos : AreRepos more state.repos = record { each = v.repos.each; lists = all_so (RepoLists state.known) (RepoLists more) (λ repo. named_grows state.known more grows repo.list) state.repos v.repos.lists; sorted = v.repos.sorted; few = v.repos.few } in
    let w = valid_with state more state.repos v f.list.catalogue repos grows (λ n h. h) in
    record {
      whole = f.list.whole;
      valid = record {
        known = f.list.catalogue;
        mirrors = kind_changed mirror_name IsMirror (MirrorLists more) (limit_number Mirrors) name (with_fetched fetched) state.mirrors (λ m. refl) good (λ m h. f.list.listed) w.mirrors;
        repos = w.repos;
        snapshots = w.snapshots;
        publications = w.publications;
        sources = sources_stay state (updated state name fetched) (λ n h. h) (λ n h. h) state.publications v.sources;
      };
    }
  where
    good : (m : MirrorView) → IsMirror m → IsMirror (with_fetched fetched m)
    good m h = record { name = h.name; archive = h.archive; distribution = h.distribution; components = h.components; architectures = h.architectures; filter = h.filter; updated = f.date }

pub fetched_fits : (state : StateView) (name : List ℕ) (result : Result Arrived UpdateFault) → Valid state → IfFetched result (FitsWith state.known) → IfFetched result (FitsIn state name)
fetched_fits state name (Ok (arrivals.List list date)) v h = fits_state state name (record { date = date; list = list }) v h
fetched_fits state name (Ok arrivals.Nothing) v h = h
fetched_fits state name (Ok (arrivals.Refused refusal)) v h = h
fetched_fits state name (Err fault) v h = tt

-- a mirror of a valid state has short paths
pub mirror_short : (state : StateView) (mirror : MirrorView) → Valid state → mirror_of mirror.name state.mirrors ≡ Some mirror → IsShort mirror
mirror_short state mirror v e =
    let is = find_holds IsMirror (λ (m : MirrorView). bytes_eq m.name mirror.name) state.mirrors mirror (each_of IsMirror state.mirrors v.mirrors.each) e in
    record {
      archive = leb-true (length mirror.archive) 200 (and_parts (is_safe_path mirror.archive) (nat_le (length mirror.archive) 200) is.archive).1;
      distribution = leb-true (length mirror.distribution) 100 (and_parts (is_safe_path mirror.distribution) (nat_le (length mirror.distribution) 100) is.distribution).1;
    }

-- ---- refusals of an arrival
input_archive : (refusal : Refusal) → IsInputRefusal refusal → IsArchiveRefusal refusal
input_archive (Limit ReleaseBytes) h = tt
input_archive refusal h = h

pub any_archive : (fault : UpdateFault) → IsAnyFault fault → IsArchiveFault fault
any_archive (faults.Refused refusal) h = input_archive refusal h
any_archive faults.HostFault h = tt
any_archive faults.InboxFault h = tt
any_archive faults.OutOfMemory h = tt

pub release_archive : (mirror : MirrorView) (fault : UpdateFault) → IsReleaseFault mirror fault → IsArchiveFault fault
release_archive mirror (faults.Refused refusal) h = by_refusal refusal h
  where
    by_refusal : (r : Refusal) → IsReleaseRefusal mirror r → IsArchiveRefusal r
    by_refusal (InputAbsent path) h = tt
    by_refusal (Limit limit) h = subst (λ l. IsArchiveRefusal (Limit l)) (sym h) tt
    by_refusal (InputMalformed path line) h = tt
    by_refusal (InputMismatch at what said found) h = early_differ (release_path mirror) at what said found h
    by_refusal r h = absurd h
release_archive mirror faults.HostFault h = tt
release_archive mirror faults.InboxFault h = tt
release_archive mirror faults.OutOfMemory h = tt

-- ---- on any inbox
pub files_arrive : (map : Option Files) (state : StateView) (mirror : MirrorView) (result : Result Arrived UpdateFault) → ((f : Files) → map ≡ Some f → Brings (Arrives f state.known mirror) result) → IfFetched result (FitsIn state mirror.name) → IfErr result IsArchiveFault → Brings (FilesArrive map state mirror) result
files_arrive (Some f) state mirror (Ok (arrivals.List list date)) h fits fault = h f refl
files_arrive None state mirror (Ok (arrivals.List list date)) h fits fault = fits
files_arrive map state mirror (Ok arrivals.Nothing) h fits fault = fits
files_arrive map state mirror (Ok (arrivals.Refused refusal)) h fits fault = fits
files_arrive (Some f) state mirror (Err (faults.Refused refusal)) h fits fault = h f refl
files_arrive None state mirror (Err (faults.Refused refusal)) h fits fault = fault
files_arrive map state mirror (Err faults.HostFault) h fits fault = tt
files_arrive map state mirror (Err faults.InboxFault) h fits fault = tt
files_arrive map state mirror (Err faults.OutOfMemory) h fits fault = tt

-- where the patterns are built
pub built_brings : (map : Option Files) (state : StateView) (mirror : MirrorView) (result : Result Arrived UpdateFault) → ArePatterns (conditions_of mirror) → Brings (FilesArrive map state mirror) result → Brings (Updates None map state mirror) result
built_brings map state mirror (Ok (arrivals.List list date)) p h = record { pick = None; legal = p; comes = h }
built_brings map state mirror (Ok arrivals.Nothing) p h = h
built_brings map state mirror (Ok (arrivals.Refused refusal)) p h = h
built_brings map state mirror (Err (faults.Refused refusal)) p h = record { pick = None; legal = p; comes = h }
built_brings map state mirror (Err faults.HostFault) p h = tt
built_brings map state mirror (Err faults.InboxFault) p h = tt
built_brings map state mirror (Err faults.OutOfMemory) p h = tt

-- where one isn't
module _ (map : Option Files) (state : StateView) (mirror : MirrorView) (old new : ℕ) (refused : Option (List ℕ)) where
  picked : (fault : UpdateFault) → IfRefused (λ refusal. Told old new refused (λ large. IsPick large (conditions_of mirror) (Some refusal))) fault → Told old new refused (λ large. FaultMeets (Updates large map state mirror) fault)
  picked (faults.Refused refusal) (large, told, pick) = (large, told, record { pick = Some refusal; legal = pick; comes = refl })
  picked faults.OutOfMemory h = (None, tt, tt)
  picked faults.HostFault h = absurd h
  picked faults.InboxFault h = absurd h

  pub picked_brings : (r : Result Arrived UpdateFault) (x y : UpdateFault) → r ≡ Err x → x ≡ y → IfRefused (λ refusal. Told old new refused (λ large. IsPick large (conditions_of mirror) (Some refusal))) y → Told old new refused (λ large. Brings (Updates large map state mirror) r)
  picked_brings r x y e s h = subst (λ (q : Result Arrived UpdateFault). Told old new refused (λ large. Brings (Updates large map state mirror) q)) (sym (e ∙ ap Err s)) (picked y h)

pub pattern_fault : (P : Refusal → Type 0) (mirror : MirrorView) (fault : UpdateFault) → IfRefused P fault → IsUpdateFault P mirror fault
pattern_fault P mirror (faults.Refused refusal) h = inl h
pattern_fault P mirror faults.HostFault h = tt
pattern_fault P mirror faults.InboxFault h = tt
pattern_fault P mirror faults.OutOfMemory h = tt

pub archive_fault : (P : Refusal → Type 0) (mirror : MirrorView) (fault : UpdateFault) → ArePatterns (conditions_of mirror) → IsArchiveFault fault → IsUpdateFault P mirror fault
archive_fault P mirror (faults.Refused refusal) p h = inr (p, h)
archive_fault P mirror faults.HostFault p h = tt
archive_fault P mirror faults.InboxFault p h = tt
archive_fault P mirror faults.OutOfMemory p h = tt

-- ---- the text that was refused
but : (old new : Option (List ℕ)) (fault : UpdateFault) → new ≡ old → KeepsBut old new fault
but old new (faults.Refused refusal) e = by_refusal refusal
  where
    by_refusal : (r : Refusal) → KeepsBut old new (faults.Refused r)
    by_refusal (PatternTooLarge query test) = tt
    by_refusal r = e
but old new faults.HostFault e = e
but old new faults.InboxFault e = e
but old new faults.OutOfMemory e = e

pub keeps_all : {X : Type 0} (old new : Option (List ℕ)) (r : Result X UpdateFault) → new ≡ old → KeepsText old new r
keeps_all old new (Ok x) e = e
keeps_all old new (Err fault) e = but old new fault e

pub keeps_err : {X : Type 0} (old new : Option (List ℕ)) (r : Result X UpdateFault) (x y : UpdateFault) → r ≡ Err x → x ≡ y → KeepsBut old new y → KeepsText old new r
keeps_err {X = X} old new r x y e s h = subst (λ (q : Result X UpdateFault). KeepsText old new q) (sym (e ∙ ap Err s)) h

-- ---- of what a mismatch is told
module _ (map : Option Files) (mirror : MirrorView) where
  pub release_mismatch : (fault : UpdateFault) → IsReleaseFault mirror fault → FaultOfMirror map mirror fault
  release_mismatch (faults.Refused refusal) h = by_refusal refusal h
    where
      by_refusal : (r : Refusal) → IsReleaseRefusal mirror r → IsOfMirror map mirror r
      by_refusal (InputMismatch at what said found) h = inl h
      by_refusal r h = tt
  release_mismatch faults.HostFault h = tt
  release_mismatch faults.InboxFault h = tt
  release_mismatch faults.OutOfMemory h = tt

  pub index_mismatch : (release : ReleaseView) (fault : UpdateFault) → IsSomeRelease release → (IsShort mirror → ForSome map (λ f. IsFetched f mirror (Ok release))) → FaultOfListed (distribution_folder mirror) release.files (wanted_indexes mirror release) fault → FaultOfMirror map mirror fault
  index_mismatch release (faults.Refused refusal) some fetched h = by_refusal refusal h
    where
      by_refusal : (r : Refusal) → IsOfListed (distribution_folder mirror) release.files (wanted_indexes mirror release) r → IsOfMirror map mirror r
      by_refusal (InputMismatch at what said found) (name, wanted, (file, listed, is)) = inr (inl (record { release = release; said = some; fetched = fetched; name = name; wanted = wanted; file = file; listed = listed; is = is }))
      by_refusal r h = tt
  index_mismatch release faults.HostFault some fetched h = tt
  index_mismatch release faults.InboxFault some fetched h = tt
  index_mismatch release faults.OutOfMemory some fetched h = tt

  pub package_mismatch : (release : ReleaseView) (entries : List IndexEntry) (fault : UpdateFault) → IsArchive map mirror release entries → FaultOfFiles mirror.archive (path_of entries) (chosen_in mirror release entries) fault → FaultOfMirror map mirror fault
  package_mismatch release entries (faults.Refused refusal) archive h = by_refusal refusal h
    where
      by_refusal : (r : Refusal) → IsOfFiles mirror.archive (path_of entries) (chosen_in mirror release entries) r → IsOfMirror map mirror r
      by_refusal (InputMismatch at what said found) h = inr (inr (record { release = release; entries = entries; archive = archive; is = h }))
      by_refusal r h = tt
  package_mismatch release entries faults.HostFault archive h = tt
  package_mismatch release entries faults.InboxFault archive h = tt
  package_mismatch release entries faults.OutOfMemory archive h = tt

  pub memory_mismatch : (fault : UpdateFault) → fault ≡ faults.OutOfMemory → FaultOfMirror map mirror fault
  memory_mismatch fault e = subst (FaultOfMirror map mirror) (sym e) tt
