-- What the arrival of a folder answers, and what it does to the store.
use Rattle.std.specs.Prelude.{◌≡◌, ℕ, List, [], length, Option, Some, None, Result, Ok, Err, ◌⊎◌, All, ◌≤◌}
use Rattle.ap_host.specs.Disk.{Path, Files, Log, extended, live_of}
use Rattle.package_core.specs.Card.{Card}
use Rattle.machine_state.specs.declared.refusal.Refusal.{Refusal}
use Rattle.machine_state.specs.declared.refusal.Refusal.TheVariants.{InputMalformed, InputMismatch}
use Rattle.machine_state.specs.Values.{StateView}
use Rattle.index_text.specs.Index.{Lists, IsAt, ArePackages}
use Rattle.std.specs.List.{AllByRecursion}
use Rattle.std.specs.Option.{ForSome}
use Rattle.ap_host.specs.declared.host.Op.{Op}
use Rattle.stage_file.specs.Stage.{StageState, IsMarked, IsInStep}
use Rattle.hash_pool.specs.Names.{IsNamed}
use Rattle.hash_pool.specs.Growth.{PoolGrows, targets}
use Rattle.machine_state.specs.declared.arrived.Arrived.{Arrived}
use Rattle.machine_state.specs.declared.arrived.UpdateFault.{UpdateFault}
use Rattle.hash_pool.specs.Bodies.{HasBody, DigestsApart}
use Rattle.machine_state.specs.declared.arrived.Arrived.TheVariants as arrivals
use Rattle.machine_state.specs.declared.arrived.UpdateFault.TheVariants as faults
use Rattle.package_intake.specs.Index.{EndsEarlyIf, IndexEntry, index_bytes, cards_of, path_of}
use Rattle.package_intake.specs.Faults.{IsInputRefusal, IsOfFiles}
use Rattle.package_intake.specs.Additions.{Fills, IsFileOf}
use Rattle.package_intake.specs.Arrival.{index_path, list_of, Arrives}
use Rattle.package_intake.specs.Fits.{FitsIn}

-- the index of a folder says this
pub record IsListed (files : Files) (folder : Path) (entries : List IndexEntry) : Type 0 where
  pub bytes : List ℕ
  pub there : index_bytes (index_path folder) (files (index_path folder)) ≡ Ok bytes
  pub lists : Lists bytes entries

-- the index of a folder isn't there or not readable, which is told
abbrev pub IsUnlisted : Files → Path → UpdateFault → Type 0
IsUnlisted files folder (faults.Refused refusal) =
    (index_bytes (index_path folder) (files (index_path folder)) ≡ Err refusal)
    ⊎ ((bytes : List ℕ) × (index_bytes (index_path folder) (files (index_path folder)) ≡ Ok bytes) × ((line : ℕ) × IsAt bytes line × (refusal ≡ InputMalformed (index_path folder) line)))
IsUnlisted files folder fault = Unit {0}

-- Of an inbox that tells its files this arrives, or it is refused so. Of another one any list may arrive that fits the state.
abbrev pub IsArrival : Option Files → StateView → List ℕ → Path → Arrived → Type 0
IsArrival (Some files) state name folder (arrivals.List list date) = (date ≡ []) × Arrives files state.known (list_of state name) folder (Ok list)
IsArrival (Some files) state name folder (arrivals.Refused refusal) = Arrives files state.known (list_of state name) folder (Err refusal)
IsArrival None state name folder (arrivals.List list date) = (date ≡ []) × FitsIn state name list
IsArrival None state name folder (arrivals.Refused refusal) = IsInputRefusal refusal
IsArrival files state name folder arrivals.Nothing = ⊥

-- a call comes to an arrival, unless the outside fails or memory is wanting
abbrev pub Comes : Option Files → StateView → List ℕ → Path → Result Arrived UpdateFault → Type 0
Comes files state name folder (Ok arrivals.Nothing) = ⊥
Comes files state name folder (Ok (arrivals.Refused refusal)) = ⊥
Comes files state name folder (Ok (arrivals.List list date)) = IsArrival files state name folder (arrivals.List list date)
Comes files state name folder (Err (faults.Refused refusal)) = IsArrival files state name folder (arrivals.Refused refusal)
Comes files state name folder (Err faults.HostFault) = Unit {0}
Comes files state name folder (Err faults.InboxFault) = Unit {0}
Comes files state name folder (Err faults.OutOfMemory) = Unit {0}

-- P of the list that arrived, if one did
abbrev pub IfList : Result Arrived UpdateFault → (List Card → Type 0) → Type 0
IfList (Ok (arrivals.List list date)) P = P list
IfList (Ok arrivals.Nothing) P = Unit {0}
IfList (Ok (arrivals.Refused refusal)) P = Unit {0}
IfList (Err fault) P = Unit {0}

-- these are names of files that are said of packages of one index, which is that of the folder if the inbox tells
abbrev pub AreOfIndex : Option Files → Path → List Path → Type 0
AreOfIndex inbox folder paths =
    (entries : List IndexEntry) × ArePackages entries × (length folder ≤ 200 → ForSome inbox (λ files. IsListed files folder entries)) × AllByRecursion (IsFileOf (cards_of entries)) paths

-- The pool has grown by the bodies of what arrived, or of some of it where the call broke off, by files of such names alone.
pub record AddsNamed (AreNames : List Path → Type 0) (inbox : Option Files) (known : List Card) (result : Result Arrived UpdateFault) (old new : StageState) (l : Log) (ops : List Op) : Type 0 where
  pub grows : PoolGrows l ops
  pub marked : IsMarked old new ops
  pub step : IsInStep old l → IsInStep new (extended ops l)
  pub fills : ForSome inbox (λ files. Fills files l (extended ops l))
  -- what is renamed has such names
  pub names : (targets ops ≡ []) ⊎ AreNames (targets ops)
  -- Where the pool is named by SHA-256 and has the known bodies, and no two of its files and the inbox's share a SHA-256, it has each
  -- body of the list.
  pub bodies : IfList result (λ list. ForSome inbox (λ files.
      IsNamed (live_of l) → All (HasBody (live_of l)) known → DigestsApart (live_of l) files → All (HasBody (live_of (extended ops l))) list))

-- the same for a folder: what is renamed is said of its index
abbrev pub Adds : Option Files → Path → List Card → Result Arrived UpdateFault → StageState → StageState → Log → List Op → Type 0
Adds inbox folder known result old new l ops = AddsNamed (AreOfIndex inbox folder) inbox known result old new l ops

-- What is told of a mismatch is told of the index of the folder, which ends early: its length, and the shorter one that was reached. Or
-- it is told of the file of a package of one index, which is that of the folder if the inbox tells: a fact that is stated of it, and
-- another one that was found.
abbrev pub IsOfFolder : Option Files → Path → Refusal → Type 0
IsOfFolder inbox folder (InputMismatch at what said found) =
    EndsEarlyIf (index_path folder) (InputMismatch at what said found)
    ⊎ ((entries : List IndexEntry) × ArePackages entries × (length folder ≤ 200 → ForSome inbox (λ files. IsListed files folder entries)) × IsOfFiles folder (path_of entries) (cards_of entries) (InputMismatch at what said found))
IsOfFolder inbox folder refusal = Unit {0}

abbrev pub FaultOfFolder : Option Files → Path → UpdateFault → Type 0
FaultOfFolder inbox folder (faults.Refused refusal) = IsOfFolder inbox folder refusal
FaultOfFolder inbox folder fault = Unit {0}
