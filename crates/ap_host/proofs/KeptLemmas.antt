-- What a stop may leave of the files that the last barrier made sure.
use Rattle.std.proofs.Common.{◌≡◌, ◌⊎◌, inl, inr, true, false, List, [], ◌∷◌, ◌++◌, None, IsFalse, refl, sym, ◌∙◌, ap}
use Rattle.ap_host.specs.declared.host.Op.{Op}
use Rattle.ap_host.specs.declared.host.Op.TheVariants.{Create, Append, Sync, Rename, Remove, Barrier, Say, Claim}
use Rattle.ap_host.specs.Disk.{Path, Content, Files, live_step, Log, Disk, step, after, settled, disk_of}
use Rattle.ap_host.specs.Changes.{EachOp}
use Rattle.ap_host.specs.Phases.{Touches}
use Rattle.ap_host.specs.Images.{IsTouched, kept_after, kept_of}
use Rattle.ap_host.specs.Drawing.{is_barrier, HaveNoBarrier}
use Rattle.ap_host.proofs.DiskLemmas.{one, two, same_path, with_file-other, moved-other}

-- one operation that is no barrier and doesn't sync the path
kept_step : (d : Disk) (op : Op) (p : Path) (x : Content) → IsFalse (is_barrier op) → (op ≡ Sync p → ⊥) → d.may p x → (step d op).may p x
kept_step d (Create q) p x nb ns m = inr m
kept_step d (Append q bytes) p x nb ns m = inr m
kept_step d (Sync q) p x nb ns m = inr ((λ is. ns (ap (λ (r : Path). Sync r) (sym is))), m)
kept_step d (Rename a b) p x nb ns m = inl m
kept_step d (Remove q) p x nb ns m = inl m
kept_step d Barrier p x nb ns m = absurd (cc)
kept_step d (Say bytes) p x nb ns m = m
kept_step d (Claim got) p x nb ns m = m

pub stays : (d : Disk) (ops : List Op) (p : Path) (x : Content) → HaveNoBarrier ops → EachOp (λ op. op ≡ Sync p → ⊥) ops → d.may p x → (after d ops).may p x
stays d [] p x nb ns m = m
stays d (op ∷ ops) p x nb ns m = stays (step d op) ops p x nb.1 ns.1 (kept_step d op p x nb.0 ns.0 m)

-- where nothing may be there, that stays so until a barrier
none_step : (d : Disk) (op : Op) (p : Path) → IsFalse (is_barrier op) → d.may p None → (step d op).may p None
none_step d (Create q) p nb m = inr m
none_step d (Append q bytes) p nb m = inr m
none_step d (Sync q) p nb m = elim (same_path p q) [ one is t ↦ inl (is, inr refl) | two n f ↦ inr (n, m) ]
none_step d (Rename a b) p nb m = inl m
none_step d (Remove q) p nb m = inl m
none_step d Barrier p nb m = absurd (cc)
none_step d (Say bytes) p nb m = m
none_step d (Claim got) p nb m = m

pub stays_none : (d : Disk) (ops : List Op) (p : Path) → HaveNoBarrier ops → d.may p None → (after d ops).may p None
stays_none d [] p nb m = m
stays_none d (op ∷ ops) p nb m = stays_none (step d op) ops p nb.1 (none_step d op p nb.0 m)

-- what was kept or nothing is among what a stop may leave
kept_or : (d : Disk) (k : Files) (ops : List Op) (p : Path) → d.may p (k p) ⊎ d.may p None → (after d ops).may p (kept_after k d.live ops p) ⊎ (after d ops).may p None
kept_or d k [] p m = m
kept_or d k (Create q ∷ ops) p m = kept_or (step d (Create q)) k ops p (elim m [ inl y ↦ inl (inr y) | inr y ↦ inr (inr y) ])
kept_or d k (Append q bytes ∷ ops) p m = kept_or (step d (Append q bytes)) k ops p (elim m [ inl y ↦ inl (inr y) | inr y ↦ inr (inr y) ])
kept_or d k (Sync q ∷ ops) p m = kept_or (step d (Sync q)) k ops p (elim (same_path p q) [
  | one is t ↦ inr (inl (is, inr refl))
  | two n f ↦ elim m [ inl y ↦ inl (inr (n, y)) | inr y ↦ inr (inr (n, y)) ]
])
kept_or d k (Rename a b ∷ ops) p m = kept_or (step d (Rename a b)) k ops p (elim m [ inl y ↦ inl (inl y) | inr y ↦ inr (inl y) ])
kept_or d k (Remove q ∷ ops) p m = kept_or (step d (Remove q)) k ops p (elim m [ inl y ↦ inl (inl y) | inr y ↦ inr (inl y) ])
kept_or d k (Barrier ∷ ops) p m = kept_or (step d Barrier) d.live ops p (inl refl)
kept_or d k (Say bytes ∷ ops) p m = kept_or (step d (Say bytes)) k ops p m
kept_or d k (Claim got ∷ ops) p m = kept_or (step d (Claim got)) k ops p m

pub kept_or_none : (log : Log) (p : Path) → (disk_of log).may p (kept_of log p) ⊎ (disk_of log).may p None
kept_or_none log p = kept_or (settled log.base) log.base log.ops p (inl refl)

-- with no barrier the same is kept
pub kept_same : (k l : Files) (ops : List Op) → HaveNoBarrier ops → kept_after k l ops ≡ k
kept_same k l [] nb = refl
kept_same k l (Create q ∷ ops) nb = kept_same k (live_step l (Create q)) ops nb.1
kept_same k l (Append q bytes ∷ ops) nb = kept_same k (live_step l (Append q bytes)) ops nb.1
kept_same k l (Sync q ∷ ops) nb = kept_same k (live_step l (Sync q)) ops nb.1
kept_same k l (Rename a b ∷ ops) nb = kept_same k (live_step l (Rename a b)) ops nb.1
kept_same k l (Remove q ∷ ops) nb = kept_same k (live_step l (Remove q)) ops nb.1
kept_same k l (Barrier ∷ ops) nb = absurd (let no : true ≡ false = nb.0 in cc)
kept_same k l (Say bytes ∷ ops) nb = kept_same k (live_step l (Say bytes)) ops nb.1
kept_same k l (Claim got ∷ ops) nb = kept_same k (live_step l (Claim got)) ops nb.1

-- behind a barrier what reads gave there is kept
pub kept_behind : (d : Disk) (k : Files) (a b : List Op) → HaveNoBarrier b → kept_after k d.live (a ++ Barrier ∷ b) ≡ (after d a).live
kept_behind d k [] b nb = kept_same d.live d.live b nb
kept_behind d k (Create q ∷ a) b nb = kept_behind (step d (Create q)) k a b nb
kept_behind d k (Append q bytes ∷ a) b nb = kept_behind (step d (Append q bytes)) k a b nb
kept_behind d k (Sync q ∷ a) b nb = kept_behind (step d (Sync q)) k a b nb
kept_behind d k (Rename x y ∷ a) b nb = kept_behind (step d (Rename x y)) k a b nb
kept_behind d k (Remove q ∷ a) b nb = kept_behind (step d (Remove q)) k a b nb
kept_behind d k (Barrier ∷ a) b nb = kept_behind (step d Barrier) d.live a b nb
kept_behind d k (Say bytes ∷ a) b nb = kept_behind (step d (Say bytes)) k a b nb
kept_behind d k (Claim got ∷ a) b nb = kept_behind (step d (Claim got)) k a b nb

-- a path that no operation is on reads as before
pub live_untouched : (d : Disk) (ops : List Op) (p : Path) → (IsTouched p ops → ⊥) → (after d ops).live p ≡ d.live p
live_untouched d [] p not = refl
live_untouched d (op ∷ ops) p not = live_untouched (step d op) ops p (λ t. not (inr t)) ∙ one_step op (λ t. not (inl t))
  where
    one_step : (o : Op) → (Touches p o → ⊥) → live_step d.live o p ≡ d.live p
    one_step (Create q) n = with_file-other d.live q p _ n
    one_step (Append q bytes) n = with_file-other d.live q p _ n
    one_step (Sync q) n = refl
    one_step (Rename a b) n = moved-other d.live a b p (d.live a) (λ is. n (inl is)) (λ is. n (inr is))
    one_step (Remove q) n = with_file-other d.live q p _ n
    one_step Barrier n = refl
    one_step (Say bytes) n = refl
    one_step (Claim got) n = refl
