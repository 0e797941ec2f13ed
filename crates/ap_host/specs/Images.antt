-- Images by number: which of the files that a stop may leave each choice takes.
use Rattle.std.specs.Prelude.{◌≡◌, ◌⊎◌, ◌↔◌, ℕ, zero, suc, ◌%◌, Bool, true, false, ◌==◌, List, [], ◌∷◌, map, slice_get, Some, None, IsSome}
use Rattle.std.specs.Int.{bit_at}
use Rattle.ap_host.specs.declared.host.Op.{Op}
use Rattle.ap_host.specs.declared.host.Op.TheVariants.{Barrier}
use Rattle.ap_host.specs.Disk.{Path, Content, Files, live_step, Log, disk_of, live_of, Image}
use Rattle.ap_host.specs.Phases.{Touches}
use Rattle.ap_host.specs.Table.{Entries, files_of, IsOnce}
use Rattle.ap_host.specs.Names.{IsAscending, IsOneOf}

-- one of these operations is on the path
abbrev pub IsTouched : Path → List Op → Type 0
IsTouched p [] = ⊥
IsTouched p (op ∷ ops) = Touches p op ⊎ IsTouched p ops

-- the paths that the first files have or an operation is on, in the order of their bytes, each once
pub record AreNamed (log : Log) (paths : List Path) : Type 0 where
  pub ascending : IsAscending paths
  pub each : (p : Path) → IsOneOf p paths ↔ (IsSome (log.base p) ⊎ IsTouched p log.ops)

-- what reads gave at the last barrier: `kept` is what they gave at the one before these operations, `live` what they give
abbrev pub kept_after : Files → Files → List Op → Files
kept_after kept live [] = kept
kept_after kept live (Barrier ∷ ops) = kept_after live live ops
kept_after kept live (op ∷ ops) = kept_after kept (live_step live op) ops

-- what reads gave at the last barrier, or the first files where there was none
abbrev pub kept_of : Log → Files
kept_of log = kept_after log.base log.base log.ops

-- Whether a choice takes the live value at the i-th path. Choice 0 takes it everywhere, 1 nowhere, k from 2 on where the bit
-- `i % 16` of k is set.
abbrev pub takes_live : ℕ → ℕ → Bool
takes_live zero i = true
takes_live (suc zero) i = false
takes_live (suc (suc k)) i = bit_at (suc (suc k)) (i % 16) == 1

-- the value that was kept where a stop may leave it, and nothing otherwise
abbrev pub IsKeptOrNone : Log → Files → Path → Content → Type 0
IsKeptOrNone log kept p x = ((disk_of log).may p (kept p) × (x ≡ kept p)) ⊎ (((disk_of log).may p (kept p) → ⊥) × (x ≡ None))

-- the value that is taken at a path, the live one or another
abbrev pub IsTaken : Log → Files → Path → Content → Bool → Type 0
IsTaken log kept p x true = x ≡ live_of log p
IsTaken log kept p x false = IsKeptOrNone log kept p x

-- each path once, in order, and at the i-th of these paths what the choice takes there
pub record IsDrawn (log : Log) (kept : Files) (choice : ℕ) (paths : List Path) (entries : Entries) : Type 0 where
  pub ascending : IsAscending (map (λ e. e.0) entries)
  pub taken : (i : ℕ) (p : Path) → slice_get paths i ≡ Some p → IsTaken log kept p (files_of entries p) (takes_live choice i)
  pub only : (p : Path) → (IsOneOf p paths → ⊥) → files_of entries p ≡ None

-- the image of a choice, which has each path once
pub record IsChoice (log : Log) (choice : ℕ) (entries : Entries) : Type 0 where
  pub image : Image log (files_of entries)
  pub paths : List Path
  pub named : AreNamed log paths
  pub drawn : IsDrawn log (kept_of log) choice paths entries
  pub once : IsOnce entries
