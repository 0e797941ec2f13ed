-- The steps by which an image is made.
use Rattle.std.specs.Prelude.{◌≡◌, ◌≢◌, ◌⊎◌, ◌≤◌, ℕ, Bool, true, false, List, [], ◌∷◌, ◌++◌, length, take, drop, Some, None, IsFalse}
use Rattle.ap_host.specs.declared.host.Op.{Op}
use Rattle.ap_host.specs.declared.host.Op.TheVariants.{Create, Append, Sync, Rename, Remove, Barrier, Say, Claim}
use Rattle.ap_host.specs.Disk.{Path, Content, Files}
use Rattle.ap_host.specs.Changes.{EachOp}
use Rattle.ap_host.specs.Table.{Entries}
use Rattle.ap_host.specs.Names.{IsOneOf}

abbrev pub is_barrier : Op → Bool
is_barrier (Create p) = false
is_barrier (Append p bytes) = false
is_barrier (Sync p) = false
is_barrier (Rename a b) = false
is_barrier (Remove p) = false
is_barrier Barrier = true
is_barrier (Say bytes) = false
is_barrier (Claim got) = false

abbrev pub HaveNoBarrier : List Op → Type 0
HaveNoBarrier ops = EachOp (λ op. IsFalse (is_barrier op)) ops

-- the first n operations end with the last barrier, or there is none
pub record IsBarrierEnd (ops : List Op) (n : ℕ) : Type 0 where
  pub within : n ≤ length ops
  pub ends : (n ≡ 0) ⊎ ((earlier : List Op) × (take n ops ≡ earlier ++ Barrier ∷ []))
  pub since : HaveNoBarrier (drop n ops)

-- the paths that may hold these bytes after an operation, where these reads were given and these paths might hold them before
abbrev pub HoldsAfter : Files → List ℕ → List Path → Op → Path → Type 0
HoldsAfter live bytes held (Create p) q = (q ≡ p) ⊎ IsOneOf q held
HoldsAfter live bytes held (Append p more) q = (q ≡ p) ⊎ IsOneOf q held
HoldsAfter live bytes held (Sync p) q = ((q ≡ p) × (live p ≡ Some bytes)) ⊎ ((q ≢ p) × IsOneOf q held)
HoldsAfter live bytes held (Rename a b) q = ((q ≡ b) × IsOneOf a held) ⊎ IsOneOf q held
HoldsAfter live bytes held (Remove p) q = IsOneOf q held
HoldsAfter live bytes held Barrier q = live q ≡ Some bytes
HoldsAfter live bytes held (Say more) q = IsOneOf q held
HoldsAfter live bytes held (Claim got) q = IsOneOf q held

-- the file as a list of one entry, or of none
abbrev pub entry_of : Path → Content → Entries
entry_of p None = []
entry_of p (Some bytes) = (p, bytes) ∷ []
