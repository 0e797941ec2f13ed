-- What a stop may leave includes what reads give, and it is just that where nothing was done since the last barrier.
use Rattle.std.specs.Prelude.{◌≡◌, ℕ, None, List, [], ◌∷◌}
use Rattle.ap_host.specs.declared.host.Op.{Op}
use Rattle.ap_host.specs.declared.host.Op.TheVariants.{Append, Rename, Barrier}
use Rattle.ap_host.specs.Disk.{Path, Log, extended, live_of, Image, IsSure, Durable}
use Rattle.ap_host.specs.Changes.{EachOp, TouchesOnly}

abbrev pub LawOfLiveImage : Type 0
LawOfLiveImage = (log : Log) → Image log (live_of log)

-- at a path that no operation since is on, a stop leaves what reads give, if it did before
abbrev pub LawOfUntouched : Type 0
LawOfUntouched = (log : Log) (ops : List Op) (p : Path) → EachOp (TouchesOnly (λ q. q ≡ p → ⊥)) ops → IsSure log p → IsSure (extended ops log) p

-- a rename or an append of a file that isn't there changes nothing that is read
abbrev pub LawOfAbsent : Type 0
LawOfAbsent = (log : Log) (p : Path) → live_of log p ≡ None
    → ((to q : Path) → live_of (extended (Rename p to ∷ []) log) q ≡ live_of log q) × ((bytes : List ℕ) (q : Path) → live_of (extended (Append p bytes ∷ []) log) q ≡ live_of log q)

abbrev pub LawOfBarrier : Type 0
LawOfBarrier = (log : Log) → Durable (extended (Barrier ∷ []) log)
