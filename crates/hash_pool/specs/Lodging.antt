-- One file is put into the pool.
use Rattle.std.specs.Prelude.{◌≡◌, ◌≢◌, ◌⊎◌, ℕ, ◌≤◌, List, [], ◌∷◌, length, Some, IsSome, IsTrue, IsFalse, Result, OnOk}
use Rattle.std.specs.Option.{option_or}
use Rattle.sha2.specs.Sha256.{sha256}
use Rattle.ap_host.specs.declared.host.Op.{Op}
use Rattle.ap_host.specs.declared.host.Op.TheVariants.{Create, Append, Sync, Rename, Remove, Barrier, Say, Claim}
use Rattle.ap_host.specs.Disk.{Path, Content, Log, disk_of, live_of, extended, Throughout}
use Rattle.ap_host.specs.Changes.{EachOp, SameExcept}
use Rattle.stage_file.specs.Stage.{StageState, counted, is_staged, IsMarked, IsInStep}
use Rattle.hash_pool.specs.Names.{pool_name}
use Rattle.hash_pool.specs.Growth.{PoolGrows, Onward, targets}

-- From one moment to a later one, outside the folder of staged files: at one path there is what was there, or these bytes, a stop
-- leaves there what it might have left, or these bytes, and all else is as it was.
pub record SetsOne (path : Path) (bytes : List ℕ) (l m : Log) : Type 0 where
  pub live : (live_of m path ≡ live_of l path) ⊎ (live_of m path ≡ Some bytes)
  pub may : (x : Content) → (disk_of m).may path x → (disk_of l).may path x ⊎ (x ≡ Some bytes)
  pub other_live : (p : Path) → IsFalse (is_staged p) → p ≢ path → live_of m p ≡ live_of l p
  pub other_may : (p : Path) (x : Content) → IsFalse (is_staged p) → p ≢ path → (disk_of m).may p x → (disk_of l).may p x

-- an operation of the setting of one path
abbrev pub IsSetting : Path → Op → Type 0
IsSetting path (Create p) = IsTrue (is_staged p)
IsSetting path (Append p bytes) = IsTrue (is_staged p) × (length bytes ≤ 65536)
IsSetting path (Sync p) = IsTrue (is_staged p)
IsSetting path (Rename a b) = IsTrue (is_staged a) × (b ≡ path)
IsSetting path (Remove p) = ⊥
IsSetting path Barrier = ⊥
IsSetting path (Say bytes) = ⊥
IsSetting path (Claim got) = ⊥

-- a staged file was laid and renamed to a path outside the folder of staged files, or the call broke off on the way
pub record Sets {T E : Type 0} (path : Path) (bytes : List ℕ) (old new : StageState) (result : Result T E) (l : Log) (added : List Op) : Type 0 where
  pub kinds : EachOp (IsSetting path) added
  pub target : (targets added ≡ []) ⊎ ((targets added ≡ path ∷ []) × (live_of (extended added l) path ≡ Some bytes))
  pub onward : IsFalse (is_staged path) → Onward (SetsOne path bytes) l added
  pub set : OnOk result (live_of (extended added l) path ≡ Some bytes)
  pub stage : new ≡ counted old

-- at a later moment the name of this SHA-256 has what it had, or given bytes of this SHA-256 where it had none
abbrev pub IsHeld : (List ℕ → Type 0) → List ℕ → Log → Log → Type 0
IsHeld IsGiven said l m = (bytes : List ℕ) × IsGiven bytes × (sha256 bytes ≡ said) × (live_of m (pool_name said) ≡ option_or (live_of l (pool_name said)) (Some bytes))

-- files were only staged: nothing was renamed, and at each moment all outside the folder of staged files is as it was
abbrev pub OnlyStages : Log → List Op → Type 0
OnlyStages l added = (targets added ≡ []) × Throughout (SameExcept (λ p. IsTrue (is_staged p)) l) l added

-- A file was put into the pool under the said SHA-256, or the call broke off on the way. IsGiven tells which bytes it may have.
pub record Lodges {T E : Type 0} (IsGiven : List ℕ → Type 0) (said : List ℕ) (old new : StageState) (result : Result T E) (l : Log) (added : List Op) : Type 0 where
  pub grows : PoolGrows l added
  -- a name that is there isn't set again
  pub kept : IsSome (live_of l (pool_name said)) → added ≡ []
  pub target : (targets added ≡ []) ⊎ (targets added ≡ pool_name said ∷ [])
  -- files were only staged, or at each moment the name has what it had, or the given bytes, whole
  pub whole : OnlyStages l added ⊎ ((bytes : List ℕ) × IsGiven bytes × (sha256 bytes ≡ said) × Throughout (SetsOne (pool_name said) bytes l) l added)
  pub held : OnOk result (IsHeld IsGiven said l (extended added l))
  -- at most one staged file was laid
  pub stage : ((added ≡ []) × (new ≡ old)) ⊎ (new ≡ counted old)
  pub marked : IsMarked old new added
  pub step : IsInStep old l → IsInStep new (extended added l)
