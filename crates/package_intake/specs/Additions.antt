-- What an intake does to the store.
use Rattle.std.specs.Prelude.{◌≡◌, ℕ, List, [], ◌∷◌, Option, Some, Result, ◌⊎◌, All, IfOk, IsTrue}
use Rattle.ap_host.specs.Disk.{Path, Files, Log, extended, live_of}
use Rattle.package_core.specs.Card.{Card}
use Rattle.std.specs.List.{AllByRecursion, Contains}
use Rattle.std.specs.Option.{ForSome}
use Rattle.ap_host.specs.declared.host.Op.{Op}
use Rattle.sha2.specs.Sha256.{sha256}
use Rattle.stage_file.specs.Stage.{StageState, IsMarked, IsInStep}
use Rattle.hash_pool.specs.Names.{IsNamed, is_pooled, pool_name}
use Rattle.hash_pool.specs.Growth.{PoolGrows, targets}
use Rattle.machine_state.specs.declared.arrived.UpdateFault.{UpdateFault}
use Rattle.hash_pool.specs.Bodies.{HasBody, DigestsApart}

-- From one moment to a later one: what is new in the pool has the bytes of a file of the inbox, and is named by their SHA-256.
abbrev pub Fills : Files → Log → Log → Type 0
Fills inbox l m =
    (p : Path) → IsTrue (is_pooled p) → (live_of m p ≡ live_of l p) ⊎ ((q : Path) × (bytes : List ℕ) × (inbox q ≡ Some bytes) × (p ≡ pool_name (sha256 bytes)) × (live_of m p ≡ Some bytes))

-- The pool has grown by the body of one package, or the call broke off.
pub record AddsOne (inbox : Option Files) (one : Card) (Needs : Files → Type 0) (result : Result Card UpdateFault) (old new : StageState) (l : Log) (ops : List Op) : Type 0 where
  pub grows : PoolGrows l ops
  pub marked : IsMarked old new ops
  pub step : IsInStep old l → IsInStep new (extended ops l)
  pub fills : ForSome inbox (λ files. Fills files l (extended ops l))
  -- what is renamed is the file that is said of the package
  pub names : (targets ops ≡ []) ⊎ (targets ops ≡ pool_name one.said.sha256 ∷ [])
  pub body : IfOk result (λ p. ForSome inbox (λ files. IsNamed (live_of l) → DigestsApart (live_of l) files → Needs (live_of l) → HasBody (live_of (extended ops l)) p))

-- the name in the pool of the file that is said of one of these packages
abbrev pub IsFileOf : List Card → Path → Type 0
IsFileOf packages path = (p : Card) × Contains packages p × (path ≡ pool_name p.said.sha256)

-- The pool has grown by the bodies of packages, or of some of them where the call broke off.
pub record AddsAll (inbox : Option Files) (packages known : List Card) (result : Result (List Card) UpdateFault) (old new : StageState) (l : Log) (ops : List Op) : Type 0 where
  pub grows : PoolGrows l ops
  pub marked : IsMarked old new ops
  pub step : IsInStep old l → IsInStep new (extended ops l)
  pub fills : ForSome inbox (λ files. Fills files l (extended ops l))
  pub names : AllByRecursion (IsFileOf packages) (targets ops)
  pub bodies : IfOk result (λ list. ForSome inbox (λ files.
      IsNamed (live_of l) → DigestsApart (live_of l) files → All (HasBody (live_of l)) known → All (HasBody (live_of (extended ops l))) list))
