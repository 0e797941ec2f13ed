-- What the arrival of an archive answers, and what it does to the store.
use Rattle.std.specs.Prelude.{◌≡◌, ◌⊎◌, ℕ, List, Option, Some, None, Result, Ok, Err}
use Rattle.std.specs.List.{AllByRecursion, Contains}
use Rattle.std.specs.Option.{ForSome}
use Rattle.ap_host.specs.declared.host.Op.{Op}
use Rattle.ap_host.specs.Disk.{Path, Files, Log}
use Rattle.package_core.specs.Card.{Card}
use Rattle.package_list.specs.Lists.{joined}
use Rattle.release_file.specs.declared.listing.Listed.{Listed}
use Rattle.release_file.specs.Release.{ReleaseView, IsRelease}
use Rattle.index_text.specs.Index.{ArePackages}
use Rattle.stage_file.specs.Stage.{StageState}
use Rattle.machine_state.specs.declared.fetched.Fetched.{Fetched}
use Rattle.machine_state.specs.declared.limit.Limit.TheVariants.{ReleaseBytes}
use Rattle.machine_state.specs.declared.refusal.Refusal.{Refusal}
use Rattle.machine_state.specs.declared.refusal.Refusal.TheVariants.{InputAbsent, InputMalformed, InputMismatch, Limit, PatternTooLarge}
use Rattle.machine_state.specs.declared.arrived.Arrived.{Arrived}
use Rattle.machine_state.specs.declared.arrived.Arrived.TheVariants as arrivals
use Rattle.machine_state.specs.declared.arrived.UpdateFault.{UpdateFault}
use Rattle.machine_state.specs.declared.arrived.UpdateFault.TheVariants as faults
use Rattle.machine_state.specs.declared.change.ChangeFault.{ChangeFault}
use Rattle.machine_state.specs.declared.change.ChangeFault.TheVariants as changes
use Rattle.machine_state.specs.Values.{MirrorView, StateView}
use Rattle.step_model.specs.Refuses.{ArePatterns, IsPick}
use Rattle.ap_text.specs.Paths.{below_folder}
use Rattle.package_intake.specs.Index.{EndsEarlyIf, IndexEntry, cards_of, path_of}
use Rattle.package_intake.specs.Faults.{IsInputRefusal, IsOfFile, IsOfFiles}
use Rattle.package_intake.specs.Additions.{IsFileOf}
use Rattle.package_intake.specs.Answers.{AddsNamed}
use Rattle.mirror_update.specs.Fetch.{FaultMeets, IsFetched, IsShort, release_path, distribution_folder}
use Rattle.mirror_update.specs.Wanted.{listed_at, stated_of, wanted_indexes}
use Rattle.mirror_update.specs.Indexes.{IndexesSay}
use Rattle.mirror_update.specs.Filter.{conditions_of}
use Rattle.mirror_update.specs.Arrival.{Arrives, chosen_of}
use Rattle.mirror_update.specs.Fits.{FitsIn}

-- ---- what arrives

-- a refusal of some step of an arrival of an archive
abbrev pub IsArchiveRefusal : Refusal → Type 0
IsArchiveRefusal (Limit ReleaseBytes) = Unit {0}
IsArchiveRefusal refusal = IsInputRefusal refusal

abbrev pub IsArchiveFault : UpdateFault → Type 0
IsArchiveFault (faults.Refused refusal) = IsArchiveRefusal refusal
IsArchiveFault fault = Unit {0}

-- Of an inbox that tells its files this comes of the archive. Of another one anything may that fits the state, and any refusal of an arrival.
abbrev pub FilesArrive : Option Files → StateView → MirrorView → Result Fetched Refusal → Type 0
FilesArrive (Some files) state mirror arrived = Arrives files state.known mirror arrived
FilesArrive None state mirror (Ok fetched) = FitsIn state mirror.name fetched
FilesArrive None state mirror (Err refusal) = IsArchiveRefusal refusal

-- where the filter's patterns came to this
abbrev pub PickArrives : Option Refusal → Option Files → StateView → MirrorView → Result Fetched Refusal → Type 0
PickArrives (Some refusal) inbox state mirror arrived = arrived ≡ Err refusal
PickArrives None inbox state mirror arrived = FilesArrive inbox state mirror arrived

-- What comes of an update of a mirror in a call whose pattern builder refused this text for its size: the filter's patterns are built
-- first, and then the archive is read.
pub record Updates (large : Option (List ℕ)) (inbox : Option Files) (state : StateView) (mirror : MirrorView) (arrived : Result Fetched Refusal) : Type 0 where
  pub pick : Option Refusal
  pub legal : IsPick large (conditions_of mirror) pick
  pub comes : PickArrives pick inbox state mirror arrived

abbrev pub IsArrival : Option (List ℕ) → Option Files → StateView → MirrorView → Arrived → Type 0
IsArrival large inbox state mirror (arrivals.List list date) = Updates large inbox state mirror (Ok (record { date = date; list = list }))
IsArrival large inbox state mirror (arrivals.Refused refusal) = Updates large inbox state mirror (Err refusal)
IsArrival large inbox state mirror arrivals.Nothing = ⊥

-- a call brings what P says, unless the outside fails or memory is wanting
abbrev pub Brings : (Result Fetched Refusal → Type 0) → Result Arrived UpdateFault → Type 0
Brings P (Ok (arrivals.List list date)) = P (Ok (record { date = date; list = list }))
Brings P (Ok arrivals.Nothing) = ⊥
Brings P (Ok (arrivals.Refused refusal)) = ⊥
Brings P (Err fault) = FaultMeets P fault

-- what a call gives that isn't refused was fetched, and P holds of it
abbrev pub IfFetched : Result Arrived UpdateFault → (Fetched → Type 0) → Type 0
IfFetched (Ok (arrivals.List list date)) P = P (record { date = date; list = list })
IfFetched (Ok arrivals.Nothing) P = ⊥
IfFetched (Ok (arrivals.Refused refusal)) P = ⊥
IfFetched (Err fault) P = Unit {0}

-- ---- patterns

-- P of a refusal, if the error is one; else memory was wanting
abbrev pub IfRefused : (Refusal → Type 0) → UpdateFault → Type 0
IfRefused P (faults.Refused refusal) = P refusal
IfRefused P faults.OutOfMemory = Unit {0}
IfRefused P faults.HostFault = ⊥
IfRefused P faults.InboxFault = ⊥

-- a fault of a change, as that of an update
abbrev pub change_tells : ChangeFault → UpdateFault
change_tells (changes.Refused refusal) = faults.Refused refusal
change_tells changes.OutOfMemory = faults.OutOfMemory

-- why an update is refused: for a pattern of the filter as P says, or for the archive where all of these are patterns
abbrev pub IsUpdateFault : (Refusal → Type 0) → MirrorView → UpdateFault → Type 0
IsUpdateFault P mirror (faults.Refused refusal) = P refusal ⊎ (ArePatterns (conditions_of mirror) × IsArchiveRefusal refusal)
IsUpdateFault P mirror fault = Unit {0}

-- which text was refused for its size changes only where such a pattern is told
abbrev pub KeepsBut : Option (List ℕ) → Option (List ℕ) → UpdateFault → Type 0
KeepsBut old new (faults.Refused (PatternTooLarge query test)) = Unit {0}
KeepsBut old new fault = new ≡ old

abbrev pub KeepsText : {X : Type 0} → Option (List ℕ) → Option (List ℕ) → Result X UpdateFault → Type 0
KeepsText old new (Ok x) = new ≡ old
KeepsText old new (Err fault) = KeepsBut old new fault

-- ---- the Release

-- On any inbox, why a Release isn't fetched: it isn't there, or is too long, or it is none, or it ends early, which is told of its path. A
-- path that is too long for one is told as absent.
abbrev pub IsReleaseRefusal : MirrorView → Refusal → Type 0
IsReleaseRefusal mirror (InputAbsent at) = Unit {0}
IsReleaseRefusal mirror (Limit limit) = limit ≡ ReleaseBytes
IsReleaseRefusal mirror (InputMalformed at line) = at ≡ release_path mirror
IsReleaseRefusal mirror (InputMismatch at what said found) = EndsEarlyIf (release_path mirror) (InputMismatch at what said found)
IsReleaseRefusal mirror refusal = ⊥

abbrev pub IsReleaseFault : MirrorView → UpdateFault → Type 0
IsReleaseFault mirror (faults.Refused refusal) = IsReleaseRefusal mirror refusal
IsReleaseFault mirror faults.OutOfMemory = Unit {0}
IsReleaseFault mirror faults.InboxFault = Unit {0}
IsReleaseFault mirror faults.HostFault = ⊥

-- ---- what is named

-- a Release says this
abbrev pub IsSomeRelease : ReleaseView → Type 0
IsSomeRelease release = (text : List ℕ) × IsRelease text release

-- The archive has this Release, and its indexes these packages, if the inbox tells. On any inbox they are a Release and packages.
pub record IsArchive (inbox : Option Files) (mirror : MirrorView) (release : ReleaseView) (entries : List IndexEntry) : Type 0 where
  pub said : IsSomeRelease release
  pub packages : ArePackages entries
  pub fetched : IsShort mirror → ForSome inbox (λ files. IsFetched files mirror (Ok release))
  pub indexes : IsShort mirror → ForSome inbox (λ files. IndexesSay files mirror release (Ok entries))

-- the packages of an archive that the filter chooses
abbrev pub chosen_in : MirrorView → ReleaseView → List IndexEntry → List Card
chosen_in mirror release entries = chosen_of mirror release (joined (cards_of entries))

-- these are names of files that are said of packages of an archive that the filter chooses
abbrev pub AreOfArchive : Option Files → MirrorView → List Path → Type 0
AreOfArchive inbox mirror paths =
    (release : ReleaseView) × (entries : List IndexEntry) × IsArchive inbox mirror release entries × AllByRecursion (IsFileOf (chosen_in mirror release entries)) paths

-- The pool has grown by the bodies of what arrived, or of some of it where the call broke off: what is renamed is said of the archive, and
-- the filter chooses it.
abbrev pub Adds : Option Files → MirrorView → List Card → Result Arrived UpdateFault → StageState → StageState → Log → List Op → Type 0
Adds inbox mirror known result old new l ops = AddsNamed (AreOfArchive inbox mirror) inbox known result old new l ops

-- ---- of what a mismatch is told

-- of an index that is wanted, of which the Release of the archive states this
pub record IsOfIndex (inbox : Option Files) (mirror : MirrorView) (refusal : Refusal) : Type 0 where
  pub release : ReleaseView
  pub said : IsSomeRelease release
  pub fetched : IsShort mirror → ForSome inbox (λ files. IsFetched files mirror (Ok release))
  pub name : Path
  pub wanted : Contains (wanted_indexes mirror release) name
  pub file : Listed
  pub listed : listed_at release.files name ≡ Some file
  pub is : IsOfFile (below_folder (distribution_folder mirror) name) (stated_of file) refusal

-- of the file of a package that the filter chooses, at its path below the archive
pub record IsOfPackage (inbox : Option Files) (mirror : MirrorView) (refusal : Refusal) : Type 0 where
  pub release : ReleaseView
  pub entries : List IndexEntry
  pub archive : IsArchive inbox mirror release entries
  pub is : IsOfFiles mirror.archive (path_of entries) (chosen_in mirror release entries) refusal

-- What is told of a mismatch is told of the Release, which ends early: its length, and the shorter one that was reached. Or it is told
-- of a wanted index, or of the file of a chosen package: a fact that is stated of it, and another one that was found.
abbrev pub IsOfMirror : Option Files → MirrorView → Refusal → Type 0
IsOfMirror inbox mirror (InputMismatch at what said found) =
    EndsEarlyIf (release_path mirror) (InputMismatch at what said found)
    ⊎ (IsOfIndex inbox mirror (InputMismatch at what said found) ⊎ IsOfPackage inbox mirror (InputMismatch at what said found))
IsOfMirror inbox mirror refusal = Unit {0}

abbrev pub FaultOfMirror : Option Files → MirrorView → UpdateFault → Type 0
FaultOfMirror inbox mirror (faults.Refused refusal) = IsOfMirror inbox mirror refusal
FaultOfMirror inbox mirror fault = Unit {0}
