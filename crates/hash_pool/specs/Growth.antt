-- The pool grows: files are laid in the folder of staged files, synced, and renamed to names of the pool that weren't there.
use Rattle.std.specs.Prelude.{◌≡◌, ◌⊎◌, ℕ, ◌≤◌, List, [], ◌∷◌, ◌++◌, length, Some, None, IsSome, IsTrue, IsFalse}
use Rattle.std.specs.List.{AllByRecursion}
use Rattle.sha2.specs.Sha256.{sha256}
use Rattle.ap_host.specs.declared.host.Op.{Op}
use Rattle.ap_host.specs.declared.host.Op.TheVariants.{Create, Append, Sync, Rename, Remove, Barrier, Say, Claim}
use Rattle.ap_host.specs.Disk.{Path, Content, Log, disk_of, live_of, extended, said, Images, Throughout}
use Rattle.ap_host.specs.Changes.{EachOp}
use Rattle.stage_file.specs.Stage.{is_staged}
use Rattle.hash_pool.specs.Names.{is_pooled, pool_name, Named}

-- An operation that serves to take files in. Files are written in the folder of staged files alone, in pieces of at most 65,536
-- bytes, and renamed from there to pool names that weren't there. Nothing is removed, said or made sure.
abbrev pub IsTaking : Log → Op → Type 0
IsTaking l (Create p) = IsTrue (is_staged p)
IsTaking l (Append p bytes) = IsTrue (is_staged p) × (length bytes ≤ 65536)
IsTaking l (Sync p) = IsTrue (is_staged p)
IsTaking l (Rename a b) = IsTrue (is_staged a) × IsTrue (is_pooled b) × (live_of l b ≡ None)
IsTaking l (Remove p) = ⊥
IsTaking l Barrier = ⊥
IsTaking l (Say bytes) = ⊥
IsTaking l (Claim got) = ⊥

-- the paths to which files are renamed, in turn
abbrev pub targets : List Op → List Path
targets [] = []
targets (Rename a b ∷ ops) = b ∷ targets ops
targets (op ∷ ops) = targets ops

abbrev pub IsNot : Path → List Path → Type 0
IsNot p [] = Unit {0}
IsNot p (q ∷ qs) = (p ≡ q → ⊥) × IsNot p qs

-- no path stands there twice
abbrev pub IsOnce : List Path → Type 0
IsOnce [] = Unit {0}
IsOnce (p ∷ ps) = IsNot p ps × IsOnce ps

-- a file at the pool name of its SHA-256
abbrev pub IsBody : Path → Content → Type 0
IsBody p x = (bytes : List ℕ) × (x ≡ Some bytes) × (p ≡ pool_name (sha256 bytes))

-- From one moment to a later one, outside the folder of staged files: what was there is there as it was, what is new is a pool
-- file named by its SHA-256, and a stop leaves at each path what it might have left, or such a file.
pub record HasGrown (l m : Log) : Type 0 where
  pub live : (p : Path) → IsFalse (is_staged p) → (live_of m p ≡ live_of l p) ⊎ ((live_of l p ≡ None) × IsBody p (live_of m p))
  pub may : (p : Path) (x : Content) → IsFalse (is_staged p) → (disk_of m).may p x → (disk_of l).may p x ⊎ IsBody p x

-- R between each two moments of these operations
abbrev pub Onward : (Log → Log → Type 0) → Log → List Op → Type 0
Onward R l ops = (before between since : List Op) → (before ++ between) ++ since ≡ ops → R (extended before l) (extended (before ++ between) l)

-- Files were taken in.
pub record PoolGrows (l : Log) (ops : List Op) : Type 0 where
  pub kinds : EachOp (IsTaking l) ops
  pub once : IsOnce (targets ops)
  -- what was renamed is there at the end
  pub there : AllByRecursion (λ p. IsSome (live_of (extended ops l) p)) (targets ops)
  pub onward : Onward HasGrown l ops

-- Taking in can go on, so it holds of any number of calls, one after another.
pub record Growths : Type 0 where
  pub none : (l : Log) → PoolGrows l []
  pub then : (l : Log) (a b : List Op) → PoolGrows l a → PoolGrows (extended a l) b → PoolGrows l (a ++ b)
  -- at each moment it has grown since the start
  pub moments : (l : Log) (ops : List Op) → PoolGrows l ops → Throughout (HasGrown l) l ops
  -- so whatever a stop leaves has, outside the folder of staged files, what it might have had, or a pool file named by its SHA-256
  pub images : (l m : Log) → HasGrown l m → Images m (λ f. (p : Path) → IsFalse (is_staged p) → (disk_of l).may p (f p) ⊎ IsBody p (f p))
  -- nothing was said, and each target is a pool name that wasn't there
  pub quiet : (l : Log) (ops : List Op) → PoolGrows l ops → said ops ≡ []
  pub new : (l : Log) (ops : List Op) → PoolGrows l ops → AllByRecursion (λ p. IsTrue (is_pooled p) × (live_of l p ≡ None)) (targets ops)
  -- what is there, outside the folder of staged files, stays
  pub stays : (l m : Log) (p : Path) → HasGrown l m → IsFalse (is_staged p) → IsSome (live_of l p) → live_of m p ≡ live_of l p
  -- what is elsewhere is as it was
  pub elsewhere : (l m : Log) (p : Path) → HasGrown l m → IsFalse (is_staged p) → IsFalse (is_pooled p) → live_of m p ≡ live_of l p
  -- and a stop leaves nothing new there
  pub unmoved : (l m : Log) (p : Path) (x : Content) → HasGrown l m → IsFalse (is_staged p) → IsFalse (is_pooled p) → (disk_of m).may p x → (disk_of l).may p x
  -- a pool that is named stays so
  pub named : (l : Log) (ops : List Op) → Named l → PoolGrows l ops → Throughout Named l ops
