-- What a run of operations leaves as it was.
use Rattle.std.specs.Prelude.{◌≡◌, List, [], ◌∷◌, Option}
use Rattle.std.specs.Option.{ForSome}
use Rattle.ap_host.specs.declared.host.Op.{Op}
use Rattle.ap_host.specs.declared.host.Op.TheVariants.{Create, Append, Sync, Rename, Remove, Barrier, Say, Claim}
use Rattle.ap_host.specs.Disk.{Path, Content, Log, disk_of, live_of}
use Rattle.ap_host.specs.Calls.{Added}

-- the operation touches no path but those that have P. A barrier touches each path
abbrev pub TouchesOnly : (Path → Type 0) → Op → Type 0
TouchesOnly P (Create p) = P p
TouchesOnly P (Append p bytes) = P p
TouchesOnly P (Sync p) = P p
TouchesOnly P (Rename a b) = P a × P b
TouchesOnly P (Remove p) = P p
TouchesOnly P Barrier = ⊥
TouchesOnly P (Say bytes) = Unit {0}
TouchesOnly P (Claim got) = Unit {0}

-- P of each operation
abbrev pub EachOp : (Op → Type 0) → List Op → Type 0
EachOp P [] = Unit {0}
EachOp P (op ∷ ops) = P op × EachOp P ops

-- at each path but those that have P, reads give what they gave, and a stop leaves nothing new
pub record SameExcept (P : Path → Type 0) (before now : Log) : Type 0 where
  pub live : (q : Path) → ¬ P q → live_of now q ≡ live_of before q
  pub may : (q : Path) (x : Content) → ¬ P q → (disk_of now).may q x → (disk_of before).may q x

-- A call has added operations. If the log is told, P holds of the log at entry and of what was added.
pub record GoesOn (old new : Option Log) (P : Log → List Op → Type 0) : Type 0 where
  pub added : List Op
  pub log : Added added old new
  pub holds : ForSome old (λ l. P l added)
