-- One path is set, and one file lodged in the pool.
use Rattle.std.proofs.Common.{◌≡◌, ◌≢◌, ◌⊎◌, inl, inr, ℕ, List, [], ◌∷◌, ◌++◌, Some, None, IsTrue, IsFalse, Result, Ok, Err, OnOk, refl, sym, ◌∙◌, ap, subst, append-nil}
use Rattle.ap_host.specs.declared.host.Op.{Op}
use Rattle.ap_host.specs.declared.host.Op.TheVariants.{Create, Append, Sync, Rename, Remove, Barrier, Say, Claim}
use Rattle.ap_host.specs.declared.host.HostErr.{HostErr}
use Rattle.ap_host.specs.Disk.{Path, Content, with_file, moved, Log, live_of, extended}
use Rattle.ap_host.specs.Changes.{EachOp, SameExcept}
use Rattle.ap_host.proofs.DiskLemmas.{with_file-same, extended-append}
use Rattle.ap_host.proofs.ChangeLemmas.{EachOp-append, EachOp-map, part_touches, did_part, did_ok, same_after}
use Rattle.stage_file.specs.Stage.{StageState, counted, stage_path, is_staged, LaysAt, IsLaid, Lays, Places}
use Rattle.stage_file.proofs.StageLemmas.{lays_only, live_step_of}
use Rattle.hash_pool.specs.Growth.{targets, Onward}
use Rattle.hash_pool.specs.Lodging.{SetsOne, IsSetting, Sets}
use Rattle.hash_pool.proofs.NameLemmas.{staged_path, not_stage_path}
use Rattle.hash_pool.proofs.OnwardLemmas.{Onward-none, Onward-one, Onward-append, onward_same}
use Rattle.hash_pool.proofs.GrowthLemmas.{targets-append}

pub sets_refl : (path : Path) (bytes : List ℕ) (l : Log) → SetsOne path bytes l l
sets_refl path bytes l = record { live = inl refl; may = λ x m. inl m; other_live = λ p out n. refl; other_may = λ p x out n m. m }

pub sets_then : (path : Path) (bytes : List ℕ) (k l m : Log) → SetsOne path bytes k l → SetsOne path bytes l m → SetsOne path bytes k m
sets_then path bytes k l m s t = record {
  live = elim t.live [ inl same ↦ elim s.live [ inl before ↦ inl (same ∙ before) | inr set ↦ inr (same ∙ set) ] | inr set ↦ inr set ];
  may = λ x may. elim (t.may x may) [ inl was ↦ s.may x was | inr set ↦ inr set ];
  other_live = λ p out n. t.other_live p out n ∙ s.other_live p out n;
  other_may = λ p x out n may. s.other_may p x out n (t.other_may p x out n may);
}

-- what leaves all but one staged file as it was
same_sets : (n : ℕ) (path : Path) (bytes : List ℕ) → IsFalse (is_staged path) → (l m : Log) → SameExcept (λ q. q ≡ stage_path n) l m → SetsOne path bytes l m
same_sets n path bytes out l m s = record {
  live = inl (s.live path (not_stage_path n path out));
  may = λ x may. inl (s.may path x (not_stage_path n path out) may);
  other_live = λ p is ne. s.live p (not_stage_path n p is);
  other_may = λ p x is ne may. s.may p x (not_stage_path n p is) may;
}

lay_onward : (n : ℕ) (path : Path) (bytes : List ℕ) (l : Log) (a : List Op) → EachOp (LaysAt (stage_path n)) a → IsFalse (is_staged path) → Onward (SetsOne path bytes) l a
lay_onward n path bytes l a each out before between since e =
    same_sets n path bytes out (extended before l) (extended (before ++ between) l) (onward_same (λ q. q ≡ stage_path n) l a (lays_only (stage_path n) a each) before between since e)

lay_kinds : (n : ℕ) (path : Path) (a : List Op) → EachOp (LaysAt (stage_path n)) a → EachOp (IsSetting path) a
lay_kinds n path a each = EachOp-map (LaysAt (stage_path n)) (IsSetting path) work a each
  where
    at : (q : Path) → q ≡ stage_path n → IsTrue (is_staged q)
    at q is = subst (λ (x : Path). IsTrue (is_staged x)) (sym is) (staged_path n)

    work : (op : Op) → LaysAt (stage_path n) op → IsSetting path op
    work (Create q) w = at q w
    work (Append q b) w = (at q w.0, w.1)
    work (Sync q) w = at q w
    work (Rename x y) w = absurd w
    work (Remove q) w = absurd w
    work Barrier w = absurd w
    work (Say b) w = absurd w
    work (Claim b) w = absurd w

lay_targets : (p : Path) (a : List Op) → EachOp (LaysAt p) a → targets a ≡ []
lay_targets p [] each = refl
lay_targets p (Create q ∷ a) each = lay_targets p a each.1
lay_targets p (Append q b ∷ a) each = lay_targets p a each.1
lay_targets p (Sync q ∷ a) each = lay_targets p a each.1
lay_targets p (Rename x y ∷ a) each = absurd each.0
lay_targets p (Remove q ∷ a) each = absurd each.0
lay_targets p (Barrier ∷ a) each = absurd each.0
lay_targets p (Say b ∷ a) each = absurd each.0
lay_targets p (Claim b ∷ a) each = absurd each.0

-- a laying that broke off
pub sets_broken : {T E : Type 0} (n : ℕ) (path : Path) (bytes : List ℕ) (old new : StageState) (r : Result T E) (e : E) (l : Log) (a : List Op)
    → r ≡ Err e → new ≡ counted old → EachOp (LaysAt (stage_path n)) a → Sets path bytes old new r l a
sets_broken n path bytes old new r e l a is stage each = record {
  kinds = lay_kinds n path a each;
  target = inl (lay_targets (stage_path n) a each);
  onward = lay_onward n path bytes l a each;
  set = subst (λ v. OnOk v (live_of (extended a l) path ≡ Some bytes)) (sym is) tt;
  stage = stage;
}

-- the staged file is renamed
module _ {T : Type 0} (n : ℕ) (path : Path) (bytes : List ℕ) (l : Log) (ops : List Op) (r : Result T HostErr) (laid : IsLaid (stage_path n) bytes l) (places : Places (stage_path n) path r l ops) where
  abbrev Ends : Path → Type 0
  Ends q = (q ≡ stage_path n) ⊎ (q ≡ path)

  placed : ops ≡ Rename (stage_path n) path ∷ [] → live_of (extended ops l) path ≡ Some bytes
  placed is = ap (λ (o : List Op). live_of (extended o l) path) is ∙ live_step_of l (Rename (stage_path n) path) path
      ∙ ap (λ (x : Content). (moved (live_of l) (stage_path n) path x) path) laid.live ∙ with_file-same (with_file (live_of l) (stage_path n) None) path (Some bytes)

  did_or_not : (ops ≡ []) ⊎ (ops ≡ Rename (stage_path n) path ∷ [])
  did_or_not = elim (did_part (Rename (stage_path n) path) r ops places.did) [ inl all ↦ inr all | inr (inl none) ↦ inl none | inr (inr all) ↦ inr all ]

  pub place_kinds : EachOp (IsSetting path) ops
  place_kinds = elim did_or_not [
    | inl none ↦ subst (EachOp (IsSetting path)) (sym none) tt
    | inr all ↦ subst (EachOp (IsSetting path)) (sym all) ((staged_path n, refl), tt)
  ]

  pub place_target : (targets ops ≡ []) ⊎ ((targets ops ≡ path ∷ []) × (live_of (extended ops l) path ≡ Some bytes))
  place_target = elim did_or_not [ inl none ↦ inl (ap targets none) | inr all ↦ inr (ap targets all, placed all) ]

  apart : IsFalse (is_staged path) → stage_path n ≢ path
  apart out is = not_stage_path n path out (sym is)

  not_end : (p : Path) → IsFalse (is_staged p) → p ≢ path → ¬ Ends p
  not_end p out ne end = elim end [ inl is ↦ not_stage_path n p out is | inr is ↦ ne is ]

  same : SameExcept Ends l (extended ops l)
  same = same_after Ends l ops (part_touches Ends (Rename (stage_path n) path) ops (inl refl, inr refl) (did_part (Rename (stage_path n) path) r ops places.did))

  place_sets : IsFalse (is_staged path) → ops ≡ Rename (stage_path n) path ∷ [] → SetsOne path bytes l (extended ops l)
  place_sets out is = record {
    live = inr (placed is);
    may = λ x may. places.whole (apart out) bytes laid ops [] (append-nil ops) x may;
    other_live = λ p o ne. same.live p (not_end p o ne);
    other_may = λ p x o ne may. same.may p x (not_end p o ne) may;
  }

  pub place_onward : IsFalse (is_staged path) → Onward (SetsOne path bytes) l ops
  place_onward out = elim did_or_not [
    | inl none ↦ subst (Onward (SetsOne path bytes) l) (sym none) (Onward-none (SetsOne path bytes) (sets_refl path bytes) l)
    | inr all ↦ subst (Onward (SetsOne path bytes) l) (sym all) (Onward-one (SetsOne path bytes) (sets_refl path bytes) l (Rename (stage_path n) path) (subst (λ (o : List Op). SetsOne path bytes l (extended o l)) all (place_sets out all)))
  ]

  pub place_done : OnOk r (live_of (extended ops l) path ≡ Some bytes)
  place_done = did_ok (Rename (stage_path n) path) r ops places.did placed

-- it was laid and renamed, or the renaming broke off
pub sets_placed : {T U : Type 0} (n : ℕ) (path : Path) (bytes : List ℕ) (old new : StageState) (v : T) (r : Result U HostErr) (l : Log) (a b : List Op)
    → new ≡ counted old → Lays (stage_path n) bytes (Ok v) l a → Places (stage_path n) path r (extended a l) b → Sets path bytes old new r l (a ++ b)
sets_placed n path bytes old new v r l a b stage lays places =
    let laid : IsLaid (stage_path n) bytes (extended a l) = lays.laid in
    let none = lay_targets (stage_path n) a lays.only in
    let all = targets-append a b ∙ ap (λ (x : List Path). x ++ targets b) none in
    let at_end : (live_of (extended b (extended a l)) path ≡ Some bytes) → live_of (extended (a ++ b) l) path ≡ Some bytes = λ h. ap (λ (k : Log). live_of k path) (sym (extended-append a b l)) ∙ h in
    record {
      kinds = EachOp-append (IsSetting path) a b (lay_kinds n path a lays.only) (place_kinds n path bytes (extended a l) b r laid places);
      target = elim (place_target n path bytes (extended a l) b r laid places) [ inl e ↦ inl (all ∙ e) | inr e ↦ inr (all ∙ e.0, at_end e.1) ];
      onward = λ out. Onward-append (SetsOne path bytes) (sets_then path bytes) l a b (lay_onward n path bytes l a lays.only out) (place_onward n path bytes (extended a l) b r laid places out);
      set = on_ok_map r at_end (place_done n path bytes (extended a l) b r laid places);
      stage = stage;
    }
  where
    on_ok_map : {X P Q : Type 0} (s : Result X HostErr) → (P → Q) → OnOk s P → OnOk s Q
    on_ok_map (Ok x) f p = f p
    on_ok_map (Err x) f p = tt
