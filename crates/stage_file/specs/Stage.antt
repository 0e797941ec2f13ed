-- A file is laid in the folder of staged files, and then renamed to its path.
use Rattle.std.specs.Prelude.{◌≡◌, ◌≢◌, ◌⊎◌, ℕ, ◌+◌, ◌%◌, ◌^◌, ◌≤◌, ◌<◌, slice_get, Bool, true, List, [], ◌∷◌, ◌++◌, length, Some, None, Ok, IsSome, IsTrue, IsFalse, Result, OnOk, MatchBool, option_map, codes}
use Rattle.std.specs.List.{AllByRecursion}
use Rattle.ap_text.specs.Paths.{numbered, is_below}
use Rattle.ap_host.specs.declared.host.Op.{Op}
use Rattle.ap_host.specs.declared.host.Op.TheVariants.{Create, Append, Sync, Rename, Remove, Barrier, Say, Claim}
use Rattle.ap_host.specs.declared.host.HostErr.{HostErr}
use Rattle.ap_host.specs.Disk.{Path, Content, Log, extended, live_of, disk_of, Durable, Throughout}
use Rattle.ap_host.specs.Calls.{Did}
use Rattle.ap_host.specs.Changes.{EachOp}
use Rattle.ap_host.specs.Phases.{IsSynced}

abbrev pub folder : Path
folder = codes "stage"

-- the path of the staged file of this number
abbrev pub stage_path : ℕ → Path
stage_path n = numbered folder n

abbrev pub is_staged : Path → Bool
is_staged p = is_below folder p

-- what a stage knows: the number of its next file, and whether it has touched the host since its last barrier
pub record StageState : Type 0 where
  pub next : ℕ
  pub touched : Bool

-- the stage that goes on counting, and has touched the host
abbrev pub counted : StageState → StageState
counted s = record { next = (s.next + 1) % 2 ^ 64; touched = true }

-- The stage is in step with the log: where it hasn't touched the host since its last barrier, a stop changes no file. (Where it
-- has, its next barrier is the host's, and nothing is asked. What it hasn't touched since is as sure as it was: the law of
-- untouched paths.)
abbrev pub IsInStep : StageState → Log → Type 0
IsInStep s l = IsFalse s.touched → Durable l

-- what a call added, it added with the stage marked
abbrev pub IsMarked : StageState → StageState → List Op → Type 0
IsMarked old new added = IsTrue new.touched ⊎ ((added ≡ []) × (new.touched ≡ old.touched))

-- an operation of the laying of a file
abbrev pub LaysAt : Path → Op → Type 0
LaysAt p (Create q) = q ≡ p
LaysAt p (Append q bytes) = (q ≡ p) × (length bytes ≤ 65536)
LaysAt p (Sync q) = q ≡ p
LaysAt p (Rename a b) = ⊥
LaysAt p (Remove q) = ⊥
LaysAt p Barrier = ⊥
LaysAt p (Say bytes) = ⊥
LaysAt p (Claim got) = ⊥

-- an operation of the clearing of the folder
abbrev pub ClearsStaged : Op → Type 0
ClearsStaged (Remove q) = IsTrue (is_staged q)
ClearsStaged _ = ⊥

-- the file has these bytes, and a stop leaves them or nothing
pub record IsLaid (path : Path) (bytes : List ℕ) (l : Log) : Type 0 where
  pub live : live_of l path ≡ Some bytes
  pub may : (x : Content) → (disk_of l).may path x → (x ≡ Some bytes) ⊎ (x ≡ None)

-- these pieces, joined
abbrev pub joined : List (List ℕ) → List ℕ
joined [] = []
joined (piece ∷ pieces) = piece ++ joined pieces

-- bytes in pieces of at most 65,536. Empty bytes are one empty piece
pub record IsCut (bytes : List ℕ) (pieces : List (List ℕ)) : Type 0 where
  pub whole : joined pieces ≡ bytes
  pub small : AllByRecursion (λ piece. length piece ≤ 65536) pieces
  pub some : 0 < length pieces
  pub lone : bytes ≡ [] → length pieces ≡ 1

-- the appends of these pieces, in turn
abbrev pub appends : Path → List (List ℕ) → List Op
appends path [] = []
appends path (piece ∷ pieces) = Append path piece ∷ appends path pieces

-- bytes were added to a file, piece by piece
pub record Appends {T : Type 0} (path : Path) (bytes : List ℕ) (result : Result T HostErr) (l : Log) (added : List Op) : Type 0 where
  pub only : EachOp (LaysAt path) added
  pub wrote : OnOk result ((pieces : List (List ℕ)) × IsCut bytes pieces × (added ≡ appends path pieces))
  pub live : OnOk result (live_of (extended added l) path ≡ option_map (λ c. c ++ bytes) (live_of l path))

abbrev pub AppendsSoFar : Path → List ℕ → Log → List Op → Type 0
AppendsSoFar path bytes = Appends {T = Unit {0}} path bytes (Ok tt)

-- A file was laid: created, written in pieces and synced. Nothing else is touched.
pub record Lays {T : Type 0} (path : Path) (bytes : List ℕ) (result : Result T HostErr) (l : Log) (added : List Op) : Type 0 where
  pub only : EachOp (LaysAt path) added
  pub wrote : OnOk result ((pieces : List (List ℕ)) × IsCut bytes pieces × (added ≡ Create path ∷ (appends path pieces ++ Sync path ∷ [])))
  pub laid : OnOk result (IsLaid path bytes (extended added l))
  pub synced : OnOk result (IsSynced added path)

-- a staged file was set at its path
pub record Places {T : Type 0} (from to : Path) (result : Result T HostErr) (l : Log) (added : List Op) : Type 0 where
  pub did : Did (Rename from to) result added
  pub placed : OnOk result (live_of (extended added l) to ≡ live_of l from)
  -- at each moment a stop leaves at the path what it might have left, or bytes that it might have left of the staged file
  pub any_moment : from ≢ to → Throughout (λ m. (x : Content) → (disk_of m).may to x → (disk_of l).may to x ⊎ (IsSome x × (disk_of l).may from x)) l added
  -- so where the staged file was laid with these bytes, it leaves what it might have left, or these
  pub whole : from ≢ to → (bytes : List ℕ) → IsLaid from bytes l → Throughout (λ m. (x : Content) → (disk_of m).may to x → (disk_of l).may to x ⊎ (x ≡ Some bytes)) l added

-- a file was removed
pub record Removes {T : Type 0} (path : Path) (result : Result T HostErr) (l : Log) (added : List Op) : Type 0 where
  pub did : Did (Remove path) result added
  pub removed : OnOk result (live_of (extended added l) path ≡ None)
  pub any_moment : Throughout (λ m. (x : Content) → (disk_of m).may path x → (disk_of l).may path x ⊎ (x ≡ None)) l added

-- all staged files were removed, and nothing else
pub record Clears {T : Type 0} (old new : StageState) (result : Result T HostErr) (l : Log) (added : List Op) : Type 0 where
  pub marked : IsMarked old new added
  pub only : EachOp ClearsStaged added
  pub cleared : OnOk result ((q : Path) → IsTrue (is_staged q) → live_of (extended added l) q ≡ None)
  pub any_moment : Throughout (λ m. (q : Path) (x : Content) → (disk_of m).may q x → (disk_of l).may q x ⊎ (x ≡ None)) l added

-- the first n of these files were removed, and no others
pub record ClearsFirst (names : List Path) (n : ℕ) (l : Log) (added : List Op) : Type 0 where
  pub only : EachOp ClearsStaged added
  pub gone : (k : ℕ) (q : Path) → k < n → slice_get names k ≡ Some q → live_of (extended added l) q ≡ None
  pub left : (q : Path) → ((k : ℕ) → k < n → slice_get names k ≡ Some q → ⊥) → live_of (extended added l) q ≡ live_of l q

-- The host's barrier is made where the stage has touched the host, and nothing is done where it hasn't. If the stage was in step,
-- a stop then changes no file.
pub record Barriers {T : Type 0} (old : StageState) (result : Result T HostErr) (l : Log) (added : List Op) : Type 0 where
  pub made : MatchBool old.touched (Did Barrier result added) (added ≡ [])
  pub durable : OnOk result (IsInStep old l → Durable (extended added l))
