-- What a commit adds to the log.
use Rattle.std.specs.Prelude.{◌≡◌, ◌≤◌, List, length, All, Option, Some, None, Result, OnOk, IsTrue, unwrap_or}
use Rattle.ap_host.specs.declared.host.Op.{Op}
use Rattle.ap_host.specs.declared.host.Op.TheVariants.{Create, Append, Sync, Rename, Barrier}
use Rattle.ap_host.specs.declared.host.HostErr.{HostErr}
use Rattle.ap_host.specs.Disk.{Path, Log, extended, live_of, Images, Durable}
use Rattle.ap_host.specs.Changes.{EachOp}
use Rattle.run_model.specs.Run.{Grows, AtRest}
use Rattle.stage_file.specs.Stage.{StageState, is_staged, IsInStep}
use Rattle.hash_pool.specs.Growth.{targets, IsOnce}
use Rattle.hash_pool.specs.Bodies.{HasBody}
use Rattle.machine_state.specs.Values.{StateView}
use Rattle.catalogue_root.specs.Store.{IsHeld, root, store}

-- The paths that a commit sets, from the log at its start on: so far the root alone. What is said of the targets of commits and of
-- commands is said by this.
abbrev pub IsTarget : Log → Path → Type 0
IsTarget l path = path ≡ root

-- the operation sets the root
abbrev pub Sets : Op → Type 0
Sets (Rename a b) = b ≡ root
Sets _ = ⊥

-- An operation of a commit that began at this log. Files are written in the folder of staged files alone, in pieces of at most
-- 65,536 bytes, and renamed from there to what a commit sets.
abbrev pub IsCommitting : Log → Op → Type 0
IsCommitting l (Create p) = IsTrue (is_staged p)
IsCommitting l (Append p bytes) = IsTrue (is_staged p) × (length bytes ≤ 65536)
IsCommitting l (Sync p) = IsTrue (is_staged p)
IsCommitting l (Rename a b) = IsTrue (is_staged a) × IsTarget l b
IsCommitting l Barrier = Unit {0}
IsCommitting l _ = ⊥

-- An operation of a save: where there is a new state, one of its commit, and where there is none, so far no operation.
abbrev pub IsSaving : Option StateView → Log → Op → Type 0
IsSaving (Some new) l op = IsCommitting l op
IsSaving None l op = ⊥

-- a state that may be committed: the pool has the file of each package that it knows
pub record IsNext (state : StateView) (l : Log) : Type 0 where
  pub held : IsHeld state
  pub bodies : All (HasBody (live_of l)) state.known

-- where a commit may begin: each image stands for the old state, what the stage hasn't touched is durable, and the new state's
-- files are there
pub record MayCommit (old new : StateView) (stage : StageState) (l : Log) : Type 0 where
  pub rest : AtRest store old l
  pub step : IsInStep stage l
  pub next : IsNext new l

-- where the root may be set: each image stands for the old state, and has the new state's files too
pub record MaySet (old new : StateView) (l : Log) : Type 0 where
  pub rest : AtRest store old l
  pub held : IsHeld new
  pub bodies : Images l (λ f. All (HasBody f) new.known)

-- What a commit sets is set, no path twice, the root to the text of the new state. A stop leaves the old state or the new one,
-- and after the end the new.
pub record SetsRoot {T : Type 0} (old new : StateView) (result : Result T HostErr) (l : Log) (ops : List Op) : Type 0 where
  pub only : EachOp (IsCommitting l) ops
  pub once : IsOnce (targets ops)
  pub grows : MaySet old new l → Grows store old new l ops
  pub rests : MaySet old new l → OnOk result (AtRest store new (extended ops l))
  pub durable : OnOk result (Durable (extended ops l))

-- The files that were taken in are made durable, and then the root is set.
pub record Commits {T : Type 0} (old new : StateView) (before : StageState) (result : Result T HostErr) (l : Log) (ops : List Op) : Type 0 where
  pub only : EachOp (IsCommitting l) ops
  pub once : IsOnce (targets ops)
  pub grows : MayCommit old new before l → Grows store old new l ops
  pub rests : MayCommit old new before l → OnOk result (AtRest store new (extended ops l))
  pub durable : OnOk result (Durable (extended ops l))

-- a commit where there is a new state
pub record Saves {T : Type 0} (old : StateView) (new : Option StateView) (before now : StageState) (result : Result T HostErr) (l : Log) (ops : List Op) : Type 0 where
  pub only : EachOp (IsSaving new l) ops
  pub once : IsOnce (targets ops)
  pub grows : MayCommit old (unwrap_or new old) before l → Grows store old (unwrap_or new old) l ops
  pub rests : MayCommit old (unwrap_or new old) before l → OnOk result (AtRest store (unwrap_or new old) (extended ops l))
  pub step : MayCommit old (unwrap_or new old) before l → OnOk result (IsInStep now (extended ops l))
