-- What a stop within the settling may leave.
use Rattle.std.proofs.Common.{◌≡◌, IsFalse, inl, inr, Bool, true, false, List, [], ◌∷◌, ◌++◌, IsTrue, MatchBool, Result, Ok, Err, OnOk, refl, sym, ◌∙◌, ap, subst}
use Rattle.ap_host.specs.declared.host.Op.{Op}
use Rattle.ap_host.specs.declared.host.Op.TheVariants.{Create, Append, Sync, Rename, Remove, Barrier, Say, Claim}
use Rattle.ap_host.specs.declared.host.HostErr.{HostErr}
use Rattle.ap_host.specs.Disk.{Path, Content, Log, extended, live_of, said, Durable}
use Rattle.ap_host.specs.Calls.{Did}
use Rattle.ap_host.specs.Changes.{EachOp, TouchesOnly, SameExcept}
use Rattle.ap_host.proofs.DiskLemmas.{extended-append, extended-none}
use Rattle.ap_host.proofs.ChangeLemmas.{EachOp-map, same_after}
use Rattle.ap_host.proofs.LegalLemmas.{durable_image}
use Rattle.stage_file.specs.Stage.{StageState, is_staged, IsInStep, IsMarked, ClearsStaged, Barriers}
use Rattle.stage_file.proofs.StageLemmas.{live_step_of}
use Rattle.run_model.specs.Run.{Grows, Keeps, Ready, ServesOn}
use Rattle.run_model.proofs.Growing.{grows_then, keeps_of}
use Rattle.hash_pool.specs.Growth.{targets}
use Rattle.hash_pool.proofs.NameLemmas.{not_both}
use Rattle.machine_state.specs.Values.{StateView}
use Rattle.catalogue_root.specs.Opens.{IsSettling, SettlesTo}
use Rattle.catalogue_root.specs.Store.{root, IsRootOf, Fits, Open, NoneStaged, store}
use Rattle.catalogue_root.proofs.FitLemmas.{Staged, staged_free, root_not_staged, open_along, open_serves}
use Rattle.catalogue_root.proofs.CommitLemmas.{Holds, holds_along, staged_phase, nothing_phase, barrier_phase}

pub clears_each : (Q : Op → Type 0) → ((p : Path) → IsTrue (is_staged p) → Q (Remove p)) → (a : List Op) → EachOp ClearsStaged a → EachOp Q a
clears_each Q f a each = EachOp-map ClearsStaged Q one a each
  where
    one : (op : Op) → ClearsStaged op → Q op
    one (Remove p) w = f p w
    one (Create p) w = absurd w
    one (Append p b) w = absurd w
    one (Sync p) w = absurd w
    one (Rename a b) w = absurd w
    one Barrier w = absurd w
    one (Say b) w = absurd w
    one (Claim b) w = absurd w

clears_quiet : (a : List Op) → EachOp ClearsStaged a → said a ≡ []
clears_quiet [] each = refl
clears_quiet (Remove p ∷ a) each = clears_quiet a each.1
clears_quiet (Create p ∷ a) each = absurd each.0
clears_quiet (Append p b ∷ a) each = absurd each.0
clears_quiet (Sync p ∷ a) each = absurd each.0
clears_quiet (Rename x y ∷ a) each = absurd each.0
clears_quiet (Barrier ∷ a) each = absurd each.0
clears_quiet (Say b ∷ a) each = absurd each.0
clears_quiet (Claim b ∷ a) each = absurd each.0

pub settling_each : (Q : Op → Type 0) → ((p : Path) → IsTrue (is_staged p) → Q (Remove p)) → Q Barrier → (a : List Op) → EachOp IsSettling a → EachOp Q a
settling_each Q f here a each = EachOp-map IsSettling Q one a each
  where
    one : (op : Op) → IsSettling op → Q op
    one (Remove p) w = f p w
    one Barrier w = here
    one (Create p) w = absurd w
    one (Append p b) w = absurd w
    one (Sync p) w = absurd w
    one (Rename a b) w = absurd w
    one (Say b) w = absurd w
    one (Claim b) w = absurd w

pub settling_target : (a : List Op) → EachOp IsSettling a → targets a ≡ []
settling_target [] each = refl
settling_target (Remove p ∷ a) each = settling_target a each.1
settling_target (Barrier ∷ a) each = settling_target a each.1
settling_target (Create p ∷ a) each = absurd each.0
settling_target (Append p b ∷ a) each = absurd each.0
settling_target (Sync p ∷ a) each = absurd each.0
settling_target (Rename x y ∷ a) each = absurd each.0
settling_target (Say b ∷ a) each = absurd each.0
settling_target (Claim b ∷ a) each = absurd each.0

pub settling_quiet : (a : List Op) → EachOp IsSettling a → said a ≡ []
settling_quiet [] each = refl
settling_quiet (Remove p ∷ a) each = settling_quiet a each.1
settling_quiet (Barrier ∷ a) each = settling_quiet a each.1
settling_quiet (Create p ∷ a) each = absurd each.0
settling_quiet (Append p b ∷ a) each = absurd each.0
settling_quiet (Sync p ∷ a) each = absurd each.0
settling_quiet (Rename x y ∷ a) each = absurd each.0
settling_quiet (Say b ∷ a) each = absurd each.0
settling_quiet (Claim b ∷ a) each = absurd each.0

module _ (s : StateView) (l : Log) (durable : Durable l) (stands : Open (live_of l) s) where
  pub holds_durable : Holds s s l
  holds_durable = (
    λ x may. inl (subst (λ (y : Content). IsRootOf y s) (sym (durable root x may)) stands.root),
    λ q x may. let fits = subst (Fits s q) (sym (durable q x may)) (stands.fits q) in (fits, fits),
  )

  touches : (a : List Op) → EachOp ClearsStaged a → EachOp (TouchesOnly Staged) a
  touches a each = clears_each (TouchesOnly Staged) (λ p is. is) a each

  pub nothing_settled : Grows store s s l []
  nothing_settled = nothing_phase s s stands.held stands.held l [] holds_durable refl

  pub clear_phase : (a : List Op) → EachOp ClearsStaged a → Grows store s s l a
  clear_phase a each = staged_phase s s stands.held stands.held l a holds_durable (clears_quiet a each) (touches a each)

  module _ {T : Type 0} (a b : List Op) (each : EachOp ClearsStaged a) (st : StageState) (r : Result T HostErr) (barriers : Barriers st r (extended a l) b) where
    abbrev pub m : Log
    m = extended a l

    same : SameExcept Staged l m
    same = same_after Staged l a (touches a each)

    at_mid : Holds s s m
    at_mid = holds_along s s l m same holds_durable

    second : Grows store s s m b
    second = go st.touched barriers.made
      where
        go : (x : Bool) → MatchBool x (Did Barrier r b) (b ≡ []) → Grows store s s m b
        go true d = barrier_phase s s stands.held stands.held m b r at_mid d
        go false d = nothing_phase s s stands.held stands.held m b at_mid d

    pub settle_phase : Grows store s s l (a ++ b)
    settle_phase = grows_then store s s l a b (clear_phase a each) second

    -- a barrier, made or not, leaves what reads give
    live_barrier : (v : T) → r ≡ Ok v → (q : Path) → live_of (extended b m) q ≡ live_of m q
    live_barrier v is q = go st.touched barriers.made
      where
        go : (x : Bool) → MatchBool x (Did Barrier r b) (b ≡ []) → live_of (extended b m) q ≡ live_of m q
        go true d = ap (λ (o : List Op). live_of (extended o m) q) (subst (λ v. Did Barrier v b) is d) ∙ live_step_of m Barrier q
        go false d = ap (λ (o : List Op). live_of (extended o m) q) d ∙ ap (λ (x : Log). live_of x q) (extended-none m)

    pub settle_ready : (old : StageState) → IsMarked old st a → NoneStaged (live_of m) → OnOk r (Ready store s (extended (a ++ b) l))
    settle_ready old marked cleared = go r refl barriers.durable
      where
        in_step : IsInStep st m
        in_step clean = elim marked [
          | inl touching ↦ absurd (let no : true ≡ false = sym touching ∙ clean in cc)
          | inr none ↦ subst (λ (o : List Op). Durable (extended o l)) (sym none.0) (subst Durable (sym (extended-none l)) durable)
        ]

        go : (v : Result T HostErr) → r ≡ v → OnOk v (IsInStep st m → Durable (extended b m)) → OnOk v (Ready store s (extended (a ++ b) l))
        go (Ok v) is d = subst (Ready store s) (extended-append a b l) (λ f image.
            let there = durable_image (extended b m) (d in_step) f image in (
              open_along s (live_of l) f (there root ∙ live_barrier v is root ∙ same.live root root_not_staged) (λ q not. there q ∙ live_barrier v is q ∙ same.live q (λ staged. not (staged_free q staged))) stands,
              λ q staged. there q ∙ live_barrier v is q ∙ cleared q staged,
            ))
        go (Err e) is d = tt

-- whatever was staged, all else is as it was
settling_live_one : (q : Path) → IsFalse (is_staged q) → (op : Op) (l : Log) → IsSettling op → live_of (extended (op ∷ []) l) q ≡ live_of l q
settling_live_one q not (Remove p) l w = (same_after Staged l (Remove p ∷ []) (w, tt)).live q (λ is. not_both (is_staged q) is not)
settling_live_one q not Barrier l w = live_step_of l Barrier q
settling_live_one q not (Create p) l w = absurd w
settling_live_one q not (Append p b) l w = absurd w
settling_live_one q not (Sync p) l w = absurd w
settling_live_one q not (Rename a b) l w = absurd w
settling_live_one q not (Say b) l w = absurd w
settling_live_one q not (Claim b) l w = absurd w

pub settling_live : (q : Path) → IsFalse (is_staged q) → (a : List Op) (l : Log) → EachOp IsSettling a → live_of (extended a l) q ≡ live_of l q
settling_live q not [] l each = ap (λ (x : Log). live_of x q) (extended-none l)
settling_live q not (op ∷ a) l each =
    ap (λ (x : Log). live_of x q) (sym (extended-append (op ∷ []) a l)) ∙ settling_live q not a (extended (op ∷ []) l) each.1 ∙ settling_live_one q not op l each.0

-- a stage that clears and makes its barrier leaves all durable
module _ {T : Type 0} (l : Log) (a b : List Op) (old st : StageState) (marked : IsMarked old st a) (r : Result T HostErr) (barriers : Barriers st r (extended a l) b) where
  pub settle_durable : Durable l → OnOk r (Durable (extended (a ++ b) l))
  settle_durable durable = go r barriers.durable
    where
      in_step : IsInStep st (extended a l)
      in_step clean = elim marked [
        | inl touching ↦ absurd (let no : true ≡ false = sym touching ∙ clean in cc)
        | inr none ↦ subst (λ (o : List Op). Durable (extended o l)) (sym none.0) (subst Durable (sym (extended-none l)) durable)
      ]

      go : (v : Result T HostErr) → OnOk v (IsInStep st (extended a l) → Durable (extended b (extended a l))) → OnOk v (Durable (extended (a ++ b) l))
      go (Ok v) d = subst Durable (extended-append a b l) (d in_step)
      go (Err e) d = tt

-- a state that is kept is served
pub keeps_serve : (s : StateView) (l : Log) (ops : List Op) → Keeps store s l ops → ServesOn store s l ops
keeps_serve s l ops kept earlier between after e rest f image = open_serves f s s s (kept.each (earlier ++ between) after e f image)

-- a settling that broke off
pub settles_err : {T E : Type 0} (r : Result T E) (e : E) (l : Log) (ops : List Op) → r ≡ Err e → EachOp IsSettling ops → ((s : StateView) → Durable l → Open (live_of l) s → Grows store s s l ops) → SettlesTo r l ops
settles_err r e l ops is only grows = record {
  only = only;
  keeps = kept;
  serves = λ s durable stands. keeps_serve s l ops (kept s durable stands);
  ready = λ s durable stands. subst (λ v. OnOk v (Ready store s (extended ops l))) (sym is) tt;
  durable = λ durable. subst (λ v. OnOk v (Durable (extended ops l))) (sym is) tt;
  same = λ q not. settling_live q not ops l only;
}
  where
    kept : (s : StateView) → Durable l → Open (live_of l) s → Keeps store s l ops
    kept s durable stands = keeps_of store s l ops (grows s durable stands)

-- the same of an error
pub settles_other : {T U E F : Type 0} (r : Result T E) (v : Result U F) (f : F) → v ≡ Err f → (l : Log) (ops : List Op) → SettlesTo r l ops → SettlesTo v l ops
settles_other {U = U} {F = F} r v f is l ops w = subst (λ (x : Result U F). SettlesTo x l ops) (sym is) (record { only = w.only; keeps = w.keeps; serves = w.serves; ready = λ s durable stands. tt; durable = λ durable. tt; same = w.same })
