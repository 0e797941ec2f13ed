-- What a stop within a commit may leave.
use Rattle.std.proofs.Common.{◌≡◌, ◌==◌, ◌≢◌, ◌⊎◌, ◌≤◌, length, All, inl, inr, ℕ, Bool, true, false, List, [], ◌∷◌, ◌++◌, Some, None, MatchBool, Result, Ok, Err, OnOk, refl, sym, ◌∙◌, ap, subst}
use Rattle.std.specs.List.{AllByRecursion}
use Rattle.ap_host.specs.declared.host.Op.{Op}
use Rattle.ap_host.specs.declared.host.Op.TheVariants.{Create, Append, Sync, Rename, Remove, Barrier, Say, Claim}
use Rattle.ap_host.specs.declared.host.HostErr.{HostErr}
use Rattle.ap_host.specs.Disk.{Path, Content, with_file, moved, Log, Disk, disk_of, extended, live_of, Images, said, Durable, Throughout}
use Rattle.ap_host.specs.Calls.{Did}
use Rattle.ap_host.specs.Changes.{EachOp, TouchesOnly, SameExcept}
use Rattle.ap_host.proofs.DiskLemmas.{disk_of-step, with_file-same, Throughout-map, Throughout-none, Throughout-end, extended-append}
use Rattle.ap_host.proofs.ChangeLemmas.{EachOp-map, after_same, same_after, IsPart, AllOrPart, part_moments, part_each, part_touches, did_part}
use Rattle.ap_host.proofs.LegalLemmas.{law_of_live_image, image_at, durable_image}
use Rattle.stage_file.specs.Stage.{StageState, stage_path, IsInStep, LaysAt, IsLaid, Lays, Places, Barriers}
use Rattle.stage_file.proofs.StageLemmas.{live_step_of}
use Rattle.run_model.specs.Run.{Between, Grows, AtRest}
use Rattle.run_model.proofs.Growing.{onward_part, onward_nothing, onward_same, grows_then}
use Rattle.catalogue_text.specs.Root.{root_text}
use Rattle.machine_state.specs.State.{Valid}
use Rattle.machine_state.specs.Values.{StateView}
use Rattle.hash_pool.specs.Bodies.{HasBody}
use Rattle.hash_pool.specs.Growth.{targets, IsOnce}
use Rattle.hash_pool.proofs.GrowthLemmas.{targets-append}
use Rattle.catalogue_root.specs.Commits.{IsTarget, IsCommitting, MaySet, SetsRoot}
use Rattle.catalogue_root.specs.Store.{IsHeld, root, IsRootOf, Fits, Open, store}
use Rattle.catalogue_root.proofs.FitLemmas.{clash, Staged, Free, staged_free, root_free, by_free, root_not_staged, free_fits, next_fits, fits_serve, open_with, open_along, open_same}

pub staged_path : (n : ℕ) → Staged (stage_path n)
staged_path n = refl

-- (`cc` on the whole texts takes too many steps: their first bytes differ)
first : List ℕ → ℕ
first [] = 0
first (x ∷ xs) = x

pub not_root : (n : ℕ) → stage_path n ≢ root
unfolding first
not_root n e = clash (ap (λ (p : Path). first p == 100) e)

pub lays_quiet : (p : Path) (a : List Op) → EachOp (LaysAt p) a → said a ≡ []
lays_quiet p [] each = refl
lays_quiet p (Create q ∷ a) each = lays_quiet p a each.1
lays_quiet p (Append q b ∷ a) each = lays_quiet p a each.1
lays_quiet p (Sync q ∷ a) each = lays_quiet p a each.1
lays_quiet p (Rename x y ∷ a) each = absurd each.0
lays_quiet p (Remove q ∷ a) each = absurd each.0
lays_quiet p (Barrier ∷ a) each = absurd each.0
lays_quiet p (Say b ∷ a) each = absurd each.0
lays_quiet p (Claim b ∷ a) each = absurd each.0

pub lays_target : (p : Path) (a : List Op) → EachOp (LaysAt p) a → targets a ≡ []
lays_target p [] each = refl
lays_target p (Create q ∷ a) each = lays_target p a each.1
lays_target p (Append q b ∷ a) each = lays_target p a each.1
lays_target p (Sync q ∷ a) each = lays_target p a each.1
lays_target p (Rename x y ∷ a) each = absurd each.0
lays_target p (Remove q ∷ a) each = absurd each.0
lays_target p (Barrier ∷ a) each = absurd each.0
lays_target p (Say b ∷ a) each = absurd each.0
lays_target p (Claim b ∷ a) each = absurd each.0

-- a staged file is laid
module _ (n : ℕ) (Q : Op → Type 0) (c : (q : Path) → Staged q → Q (Create q)) (a : (q : Path) (b : List ℕ) → Staged q → length b ≤ 65536 → Q (Append q b)) (s : (q : Path) → Staged q → Q (Sync q)) where
  at : (q : Path) → q ≡ stage_path n → Staged q
  at q is = subst Staged (sym is) (staged_path n)

  pub lays_each : (ops : List Op) → EachOp (LaysAt (stage_path n)) ops → EachOp Q ops
  lays_each ops each = EachOp-map (LaysAt (stage_path n)) Q one ops each
    where
      one : (op : Op) → LaysAt (stage_path n) op → Q op
      one (Create q) w = c q (at q w)
      one (Append q b) w = a q b (at q w.0) w.1
      one (Sync q) w = s q (at q w)
      one (Rename x y) w = absurd w
      one (Remove q) w = absurd w
      one Barrier w = absurd w
      one (Say b) w = absurd w
      one (Claim b) w = absurd w

pub lays_committing : (l : Log) (n : ℕ) (a : List Op) → EachOp (LaysAt (stage_path n)) a → EachOp (IsCommitting l) a
lays_committing l n a each = lays_each n (IsCommitting l) (λ q is. is) (λ q b is few. (is, few)) (λ q is. is) a each

lays_staged : (n : ℕ) (a : List Op) → EachOp (LaysAt (stage_path n)) a → EachOp (TouchesOnly Staged) a
lays_staged n a each = lays_each n (TouchesOnly Staged) (λ q is. is) (λ q b is few. is) (λ q is. is) a each

-- what a call may have done of an operation that says nothing
pub did_quiet : {T : Type 0} (op : Op) (r : Result T HostErr) (a : List Op) → ((o : Op) → IsPart op o → said (o ∷ []) ≡ []) → Did op r a → said a ≡ []
did_quiet op r a quiet d = go a (part_each (λ o. said (o ∷ []) ≡ []) op a quiet (did_part op r a d))
  where
    one : (o : Op) (x : List Op) → said (o ∷ []) ≡ [] → said x ≡ [] → said (o ∷ x) ≡ []
    one (Create q) x e h = h
    one (Append q b) x e h = h
    one (Sync q) x e h = h
    one (Rename u v) x e h = h
    one (Remove q) x e h = h
    one Barrier x e h = h
    one (Say []) x e h = h
    one (Say (b ∷ bs)) x e h = absurd (let p = e in cc)
    one (Claim b) x e h = h

    go : (x : List Op) → EachOp (λ o. said (o ∷ []) ≡ []) x → said x ≡ []
    go [] each = refl
    go (o ∷ x) each = one o x each.0 (go x each.1)

-- whatever a stop leaves fits both states
abbrev pub HoldsOther : StateView → StateView → Log → Type 0
HoldsOther s t m = (q : Path) (x : Content) → (disk_of m).may q x → Fits s q x × Fits t q x

-- and at the root it leaves the one state or the other
abbrev pub Holds : StateView → StateView → Log → Type 0
Holds s t m = ((x : Content) → (disk_of m).may root x → IsRootOf x s ⊎ IsRootOf x t) × HoldsOther s t m

abbrev pub HoldsOne : StateView → StateView → Log → Type 0
HoldsOne s t m = ((x : Content) → (disk_of m).may root x → IsRootOf x s) × HoldsOther s t m

-- also where paths at which anything fits have changed
pub other_along : (s t : StateView) (l m : Log) → ((q : Path) (x : Content) → ¬ Free q → (disk_of m).may q x → (disk_of l).may q x) → HoldsOther s t l → HoldsOther s t m
other_along s t l m same holds q x may = by_free (Fits s q x × Fits t q x) q (λ free. (free_fits s q x free, free_fits t q x free)) (λ not. holds q x (same q x not may))

not_staged : (q : Path) → ¬ Free q → ¬ Staged q
not_staged q not staged = not (staged_free q staged)

pub holds_along : (s t : StateView) (l m : Log) → SameExcept Staged l m → Holds s t l → Holds s t m
holds_along s t l m same holds = (λ x may. holds.0 x (same.may root x root_not_staged may), other_along s t l m (λ q x not may. same.may q x (not_staged q not) may) holds.1)

pub rest_holds : (s t : StateView) (l : Log) → AtRest store s l → Images l (λ f. All (HasBody f) t.known) → HoldsOne s t l
rest_holds s t l rest bodies = (
  λ x may. let w = image_at l root x may in subst (λ (y : Content). IsRootOf y s) w.2 (rest w.0 w.1).root,
  λ q x may.
      let w = image_at l q x may in
      let fits = (rest w.0 w.1).fits q in
      subst (λ (y : Content). Fits s q y × Fits t q y) w.2 (fits, next_fits s t w.0 q fits (bodies w.0 w.1)),
)

pub set_holds : (s t : StateView) (l : Log) → MaySet s t l → HoldsOne s t l
set_holds s t l may = rest_holds s t l may.rest may.bodies

pub rest_held : (s : StateView) (l : Log) → AtRest store s l → IsHeld s
rest_held s l rest = (rest (live_of l) (law_of_live_image l)).held

pub rest_valid : (s : StateView) (l : Log) → AtRest store s l → Valid s
rest_valid s l rest = (rest_held s l rest).valid

module _ (s t : StateView) (old : IsHeld s) (new : IsHeld t) where
  abbrev pub IsNew : Log → Type 0
  IsNew m = Open (live_of m) t

  between : (m : Log) → Holds s t m → Images m (Between store s t)
  between m h f image =
      let fits = λ (q : Path). h.1 q (f q) (image q) in
      let serves = λ (q : Path). fits_serve s s t q (f q) (fits q).0 in
      elim (h.0 (f root) (image root)) [
        | inl e ↦ (inl (record { held = old; root = e; fits = λ q. (fits q).0 }), serves)
        | inr e ↦ (inr (record { held = new; root = e; fits = λ q. (fits q).1 }), serves)
      ]

  pub phase : (l : Log) (ops : List Op) → said ops ≡ [] → Throughout (Holds s t) l ops
      → ((earlier between after : List Op) → (earlier ++ between) ++ after ≡ ops → IsNew (extended earlier l) → IsNew (extended (earlier ++ between) l)) → Grows store s t l ops
  phase l ops quiet at onward = record { quiet = quiet; each = Throughout-map (Holds s t) (λ m. Images m (Between store s t)) between l ops at; onward = onward }

  -- staged files alone are touched
  pub staged_phase : (l : Log) (a : List Op) → Holds s t l → said a ≡ [] → EachOp (TouchesOnly Staged) a → Grows store s t l a
  staged_phase l a holds quiet each =
      let same : Throughout (SameExcept Staged l) l a = after_same Staged l a each in
      phase l a quiet
      (Throughout-map (SameExcept Staged l) (Holds s t) (λ m e. holds_along s t l m e holds) l a same)
      (onward_same IsNew l a (λ before after e.
      let w = same before after e in
      let at = w.live root root_not_staged in
      let elsewhere = λ (q : Path) (not : ¬ Free q). w.live q (not_staged q not) in
      ((λ h. open_along t _ _ (sym at) (λ q not. sym (elsewhere q not)) h), (λ h. open_along t _ _ at elsewhere h))))

  pub lay_phase : (n : ℕ) (l : Log) (a : List Op) → HoldsOne s t l → EachOp (LaysAt (stage_path n)) a → Grows store s t l a
  lay_phase n l a holds each = staged_phase l a (λ x may. inl (holds.0 x may), holds.1) (lays_quiet (stage_path n) a each) (lays_staged n a each)

  -- it is set at the root
  module _ {T : Type 0} (n : ℕ) (l : Log) (ops : List Op) (r : Result T HostErr) (laid : IsLaid (stage_path n) (root_text t) l) (holds : HoldsOne s t l) (places : Places (stage_path n) root r l ops) where
    abbrev renames : Op
    renames = Rename (stage_path n) root

    did : AllOrPart renames ops
    did = did_part renames r ops places.did

    ends : TouchesOnly Free renames
    ends = (staged_free (stage_path n) (staged_path n), root_free)

    same : Throughout (SameExcept Free l) l ops
    same = after_same Free l ops (part_touches Free renames ops ends did)

    set : (x : Content) → (disk_of l).may root x ⊎ (x ≡ Some (root_text t)) → IsRootOf x s ⊎ IsRootOf x t
    set x (inl was) = inl (holds.0 x was)
    set x (inr is) = inr (inl is)

    set_at : Throughout (Holds s t) l ops
    set_at before after e = (λ x may. set x (places.whole (not_root n) (root_text t) laid before after e x may), other_along s t l (extended before l) (same before after e).may holds.1)

    after_rename : (o : Op) → IsPart renames o → live_of (extended (o ∷ []) l) root ≡ Some (root_text t)
    after_rename o is = ap (λ (p : Op). live_of (extended (p ∷ []) l) root) is ∙ live_step_of l renames root
        ∙ ap (λ (x : Content). (moved (live_of l) (stage_path n) root x) root) laid.live ∙ with_file-same (with_file (live_of l) (stage_path n) None) root (Some (root_text t))

    one_same : (o : Op) → IsPart renames o → SameExcept Free l (extended (o ∷ []) l)
    one_same o is = same_after Free l (o ∷ []) (subst (TouchesOnly Free) (sym is) ends, tt)

    pub place_phase : Grows store s t l ops
    place_phase = phase l ops (did_quiet renames r ops (λ o is. subst (λ (x : Op). said (x ∷ []) ≡ []) (sym is) refl) places.did)
        set_at
        (onward_part IsNew l renames ops (λ o is h. open_with t (live_of l) (live_of (extended (o ∷ []) l)) new (inl (after_rename o is)) (one_same o is).live h.fits) did)

    pub place_at : Holds s t (extended ops l)
    place_at = Throughout-end (Holds s t) l ops set_at

  -- nothing is done
  pub nothing_phase : (l : Log) (ops : List Op) → Holds s t l → ops ≡ [] → Grows store s t l ops
  nothing_phase l ops at none = phase l ops (ap said none) (subst (Throughout (Holds s t) l) (sym none) (Throughout-none (Holds s t) l at)) (onward_nothing IsNew l ops none)

  -- a barrier
  pub barrier_phase : {T : Type 0} (l : Log) (ops : List Op) (r : Result T HostErr) → Holds s t l → Did Barrier r ops → Grows store s t l ops
  barrier_phase l ops r at did = phase l ops (did_quiet Barrier r ops (λ o is. subst (λ (x : Op). said (x ∷ []) ≡ []) (sym is) refl) did)
      (part_moments (Holds s t) l Barrier ops at (λ o is. (λ x may. at.0 x (there o is root x may), λ q x may. at.1 q x (there o is q x may))) (did_part Barrier r ops did))
      (onward_part IsNew l Barrier ops (λ o is h. open_same t _ _ (same o is) h) (did_part Barrier r ops did))
    where
      barred : (o : Op) → IsPart Barrier o → (q : Path) (x : Content) → (disk_of (extended (o ∷ []) l)).may q x → x ≡ live_of l q
      barred o is q x may = subst (λ (e : Disk). e.may q x) (ap (λ (p : Op). disk_of (extended (p ∷ []) l)) is ∙ disk_of-step Barrier l) may

      there : (o : Op) → IsPart Barrier o → (q : Path) (x : Content) → (disk_of (extended (o ∷ []) l)).may q x → (disk_of l).may q x
      there o is q x may = subst ((disk_of l).may q) (sym (barred o is q x may)) (law_of_live_image l q)

      same : (o : Op) → IsPart Barrier o → (q : Path) → live_of (extended (o ∷ []) l) q ≡ live_of l q
      same o is q = ap (λ (p : Op). live_of (extended (p ∷ []) l) q) is ∙ live_step_of l Barrier q

pub set_nothing : (s t : StateView) (l : Log) → MaySet s t l → Grows store s t l []
set_nothing s t l may = let h = set_holds s t l may in nothing_phase s t (rest_held s l may.rest) may.held l [] (λ x is. inl (h.0 x is), h.1) refl

-- the text of a state was laid
abbrev pub LaidSo : ℕ → StateView → StateView → Log → List Op → Type 0
LaidSo n s t l a = MaySet s t l → Grows store s t l a × IsLaid (stage_path n) (root_text t) (extended a l) × HoldsOne s t (extended a l)

pub laid_so : {T : Type 0} (n : ℕ) (s t : StateView) (v : T) (l : Log) (a : List Op) → Lays (stage_path n) (root_text t) (Ok v) l a → LaidSo n s t l a
laid_so n s t v l a lays may =
    let same = same_after Staged l a (lays_staged n a lays.only) in
    let holds = set_holds s t l may in (
      lay_phase s t (rest_held s l may.rest) may.held n l a holds lays.only,
      lays.laid,
      (λ x h. holds.0 x (same.may root x root_not_staged h), other_along s t l (extended a l) (λ q x not h. same.may q x (not_staged q not) h) holds.1),
    )

-- it was set at the root
abbrev pub SetSo : StateView → StateView → Log → List Op → Type 0
SetSo s t l a = MaySet s t l → Grows store s t l a × Holds s t (extended a l) × (live_of (extended a l) root ≡ Some (root_text t))

pub setting : {T : Type 0} (n : ℕ) (s t : StateView) (r : Result T HostErr) (l : Log) (a b : List Op) → LaidSo n s t l a → Places (stage_path n) root r (extended a l) b
    → MaySet s t l → Grows store s t l (a ++ b)
setting n s t r l a b laid places may =
    let w = laid may in
    grows_then store s t l a b w.0 (place_phase s t (rest_held s l may.rest) may.held n (extended a l) b r w.1 w.2 places)

pub set_so : {T : Type 0} (n : ℕ) (s t : StateView) (v : T) (l : Log) (a b : List Op) → LaidSo n s t l a → Places {T = T} (stage_path n) root (Ok v) (extended a l) b → SetSo s t l (a ++ b)
set_so n s t v l a b laid places may =
    let w = laid may in
    let held = may.held in
    let old = rest_held s l may.rest in (
      setting n s t (Ok v) l a b laid places may,
      subst (λ (x : Log). Holds s t x) (extended-append a b l) (place_at s t old held n (extended a l) b (Ok v) w.1 w.2 places),
      ap (λ (x : Log). live_of x root) (sym (extended-append a b l)) ∙ places.placed ∙ w.1.live,
    )

-- and a barrier
module _ {T : Type 0} (s t : StateView) (st : StageState) (r : Result T HostErr) (l : Log) (a b : List Op) (touched : st.touched ≡ true) (barriers : Barriers st r (extended a l) b) where
  made : Did Barrier r b
  made = subst (λ (x : Bool). MatchBool x (Did Barrier r b) (b ≡ [])) touched barriers.made

  in_step : IsInStep st (extended a l)
  in_step is = absurd (let no : true ≡ false = sym touched ∙ is in cc)

  pub barred : OnOk r (Durable (extended (a ++ b) l))
  barred = go r barriers.durable
    where
      go : (v : Result T HostErr) → OnOk v (IsInStep st (extended a l) → Durable (extended b (extended a l))) → OnOk v (Durable (extended (a ++ b) l))
      go (Ok v) sure = subst Durable (extended-append a b l) (sure in_step)
      go (Err e) sure = tt

  pub committed : SetSo s t l a → MaySet s t l → Grows store s t l (a ++ b)
  committed set may =
      let w = set may in
      grows_then store s t l a b w.0 (barrier_phase s t (rest_held s l may.rest) may.held (extended a l) b r w.1 made)

  pub committed_rest : SetSo s t l a → MaySet s t l → OnOk r (AtRest store t (extended (a ++ b) l))
  committed_rest set may = go r made barriers.durable
    where
      go : (v : Result T HostErr) → Did Barrier v b → OnOk v (IsInStep st (extended a l) → Durable (extended b (extended a l))) → OnOk v (AtRest store t (extended (a ++ b) l))
      go (Ok v) d sure = subst (λ (x : Log). AtRest store t x) (extended-append a b l) (λ f image.
          let w = set may in
          let same = durable_image (extended b (extended a l)) (sure in_step) f image in
          let live = λ (q : Path). ap (λ (o : List Op). live_of (extended o (extended a l)) q) d ∙ live_step_of (extended a l) Barrier q in
          record {
            held = may.held;
            root = inl (same root ∙ live root ∙ w.2);
            fits = λ q. subst (Fits t q) (sym (same q ∙ live q)) (w.1.1 q (live_of (extended a l) q) (law_of_live_image (extended a l) q)).1;
          })
      go (Err e) d sure = tt

-- the root is set, or not
abbrev pub SetsOnce : List Op → Type 0
SetsOnce ops = (targets ops ≡ []) ⊎ (targets ops ≡ root ∷ [])

pub sets_then : (a b : List Op) → targets a ≡ [] → SetsOnce b → SetsOnce (a ++ b)
sets_then a b none once = elim once [
  | inl e ↦ inl (targets-append a b ∙ ap (λ (x : List Path). x ++ targets b) none ∙ e)
  | inr e ↦ inr (targets-append a b ∙ ap (λ (x : List Path). x ++ targets b) none ∙ e)
]

pub sets_before : (a b : List Op) → SetsOnce a → targets b ≡ [] → SetsOnce (a ++ b)
sets_before a b once none = elim once [
  | inl e ↦ inl (targets-append a b ∙ ap (λ (x : List Path). x ++ targets b) e ∙ none)
  | inr e ↦ inr (targets-append a b ∙ ap (λ (x : List Path). x ++ targets b) e ∙ ap (λ (x : List Path). root ∷ x) none)
]

pub rename_sets : {T : Type 0} (p : Path) (r : Result T HostErr) (b : List Op) → Did (Rename p root) r b → SetsOnce b
rename_sets p r b did = elim (did_part (Rename p root) r b did) [
  | inl all ↦ inr (ap targets all)
  | inr (inl none) ↦ inl (ap targets none)
  | inr (inr all) ↦ inr (ap targets all)
]

pub rename_committing : {T : Type 0} (l : Log) (n : ℕ) (r : Result T HostErr) (a : List Op) → Did (Rename (stage_path n) root) r a → EachOp (IsCommitting l) a
rename_committing l n r a d = part_each (IsCommitting l) (Rename (stage_path n) root) a (λ o is. subst (IsCommitting l) (sym is) (staged_path n, refl)) (did_part (Rename (stage_path n) root) r a d)

-- the barrier of a stage, made or left out
pub barriers_each : {T : Type 0} (P : Op → Type 0) (st : StageState) (r : Result T HostErr) (l : Log) (b : List Op) → P Barrier → Barriers st r l b → EachOp P b
barriers_each {T = T} P st r l b here w = go st.touched w.made
  where
    go : (x : Bool) → MatchBool x (Did Barrier r b) (b ≡ []) → EachOp P b
    go true d = part_each P Barrier b (λ o is. subst P (sym is) here) (did_part Barrier r b d)
    go false d = subst (EachOp P) (sym d) tt

pub barriers_target : {T : Type 0} (st : StageState) (r : Result T HostErr) (l : Log) (b : List Op) → Barriers st r l b → targets b ≡ []
barriers_target {T = T} st r l b w = go b (barriers_each (λ o. o ≡ Barrier) st r l b refl w)
  where
    go : (x : List Op) → EachOp (λ o. o ≡ Barrier) x → targets x ≡ []
    go [] each = refl
    go (o ∷ x) each = subst (λ (y : Op). targets (y ∷ x) ≡ []) (sym each.0) (go x each.1)

pub once_of : (ops : List Op) → SetsOnce ops → IsOnce (targets ops)
once_of ops (inl none) = subst IsOnce (sym none) tt
once_of ops (inr one) = subst IsOnce (sym one) (tt, tt)

-- each path that is set is one that a commit sets
pub committing_targets : (l : Log) (ops : List Op) → EachOp (IsCommitting l) ops → AllByRecursion (IsTarget l) (targets ops)
committing_targets l [] each = tt
committing_targets l (Rename x y ∷ ops) each = (each.0.1, committing_targets l ops each.1)
committing_targets l (Create q ∷ ops) each = committing_targets l ops each.1
committing_targets l (Append q b ∷ ops) each = committing_targets l ops each.1
committing_targets l (Sync q ∷ ops) each = committing_targets l ops each.1
committing_targets l (Barrier ∷ ops) each = committing_targets l ops each.1
committing_targets l (Remove q ∷ ops) each = absurd each.0
committing_targets l (Say b ∷ ops) each = absurd each.0
committing_targets l (Claim b ∷ ops) each = absurd each.0

-- a setting that broke off
pub sets_err : {T : Type 0} (s t : StateView) (r : Result T HostErr) (e : HostErr) (l : Log) (ops : List Op) → r ≡ Err e → EachOp (IsCommitting l) ops → SetsOnce ops → (MaySet s t l → Grows store s t l ops) → SetsRoot s t r l ops
sets_err s t r e l ops is only once grows = record {
  only = only;
  once = once_of ops once;
  grows = grows;
  rests = λ may. subst (λ v. OnOk v (AtRest store t (extended ops l))) (sym is) tt;
  durable = subst (λ v. OnOk v (Durable (extended ops l))) (sym is) tt;
}

-- the root was set
pub record Set (s t : StateView) (l : Log) (ops : List Op) : Type 0 where
  pub only : EachOp (IsCommitting l) ops
  pub once : SetsOnce ops
  pub so : SetSo s t l ops
