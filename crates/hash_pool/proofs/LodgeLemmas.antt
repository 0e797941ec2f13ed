-- One file lodged in the pool.
use Rattle.std.proofs.Common.{◌≡◌, ◌⊎◌, inl, inr, ℕ, true, false, List, [], Bool, Option, Some, None, IsSome, is_some, IsTrue, IsFalse, Result, Ok, Err, OnOk, option_map, length, refl, sym, ◌∙◌, ap, subst}
use Rattle.std.specs.Option.{ForSome, option_or}
use Rattle.std.specs.List.{AllByRecursion}
use Rattle.sha2.specs.Sha256.{sha256}
use Rattle.ap_host.specs.declared.host.Op.{Op}
use Rattle.ap_host.specs.declared.host.Op.TheVariants.{Create, Append, Sync, Rename, Remove, Barrier, Say, Claim}
use Rattle.ap_host.specs.Disk.{Path, Content, Log, disk_of, live_of, extended}
use Rattle.ap_host.specs.Changes.{GoesOn, SameExcept}
use Rattle.ap_host.proofs.DiskLemmas.{one, two, same_path, extended-none, Added-none, Throughout-none}
use Rattle.ap_host.proofs.ChangeLemmas.{EachOp-map, SameExcept-refl}
use Rattle.stage_file.specs.Stage.{StageState, is_staged, IsInStep}
use Rattle.hash_pool.specs.Names.{is_pooled, pool_name}
use Rattle.hash_pool.specs.Growth.{IsTaking, IsOnce, IsBody, HasGrown, Onward}
use Rattle.hash_pool.specs.Lodging.{SetsOne, IsSetting, Sets, OnlyStages, IsHeld, Lodges}
use Rattle.hash_pool.proofs.NameLemmas.{name_pooled, name_not_staged}
use Rattle.hash_pool.proofs.OnwardLemmas.{Onward-start, Onward-first}
use Rattle.hash_pool.proofs.GrowthLemmas.{none_some, grows_none}

-- the log stayed, and of a told one this holds
pub GoesOn-still : (old new : Option Log) (P : Log → List Op → Type 0) (Q : Log → Type 0) → new ≡ old → ForSome old Q → ((l : Log) → Q l → P l []) → GoesOn old new P
GoesOn-still old new P Q same told f = record { added = []; log = same ∙ Added-none old; holds = λ l is. f l (told l is) }

still_step : (s : StageState) (l : Log) → IsInStep s l → IsInStep s (extended [] l)
still_step s l step = subst (λ (k : Log). IsInStep s k) (sym (extended-none l)) step

stages_none : (l : Log) → OnlyStages l []
stages_none l = (refl, Throughout-none (SameExcept Staged l) l (SameExcept-refl Staged l))
  where
    Staged : Path → Type 0
    Staged p = IsTrue (is_staged p)

module _ (G : List ℕ → Type 0) (digest : List ℕ) where
  -- nothing was done
  pub lodges_err : {T E : Type 0} (s : StageState) (r : Result T E) (e : E) (l : Log) → r ≡ Err e → Lodges G digest s s r l []
  lodges_err s r e l is = record {
    grows = grows_none l;
    kept = λ some. refl;
    target = inl refl;
    whole = inl (stages_none l);
    held = subst (λ v. OnOk v (IsHeld G digest l (extended [] l))) (sym is) tt;
    stage = inl (refl, refl);
    marked = inr (refl, refl);
    step = still_step s l;
  }

  there : (bytes : List ℕ) (x : Content) → IsSome x → x ≡ option_or x (Some bytes)
  there bytes None some = absurd (none_some None refl some)
  there bytes (Some c) some = refl

  -- the name was there
  pub lodges_there : {T E : Type 0} (bytes : List ℕ) (s : StageState) (v : T) (l : Log) → G bytes → sha256 bytes ≡ digest → IsSome (live_of l (pool_name digest)) → Lodges {T = T} {E = E} G digest s s (Ok v) l []
  lodges_there bytes s v l given is some = record {
    grows = grows_none l;
    kept = λ any. refl;
    target = inl refl;
    whole = inl (stages_none l);
    held = (bytes, given, is, ap (λ (k : Log). live_of k (pool_name digest)) (extended-none l) ∙ there bytes (live_of l (pool_name digest)) some);
    stage = inl (refl, refl);
    marked = inr (refl, refl);
    step = still_step s l;
  }

  -- as of another result
  pub lodges_ok : {T U E F : Type 0} (s t : StageState) (v : T) (w : U) (l : Log) (a : List Op) → Lodges {T = T} {E = E} G digest s t (Ok v) l a → Lodges {T = U} {E = F} G digest s t (Ok w) l a
  lodges_ok s t v w l a h = record { grows = h.grows; kept = h.kept; target = h.target; whole = h.whole; held = h.held; stage = h.stage; marked = h.marked; step = h.step }

  pub lodges_fails : {T U E F : Type 0} (s t : StageState) (q : Result T E) (r : Result U F) (e : F) (l : Log) (a : List Op) → r ≡ Err e → Lodges G digest s t q l a → Lodges G digest s t r l a
  lodges_fails s t q r e l a is h = record {
    grows = h.grows;
    kept = h.kept;
    target = h.target;
    whole = h.whole;
    held = subst (λ v. OnOk v (IsHeld G digest l (extended a l))) (sym is) tt;
    stage = h.stage;
    marked = h.marked;
    step = h.step;
  }

  pub lodges_given : {T E : Type 0} (J : List ℕ → Type 0) → ((b : List ℕ) → G b → J b) → (s t : StageState) (r : Result T E) (l : Log) (a : List Op) → Lodges G digest s t r l a → Lodges J digest s t r l a
  lodges_given {T = T} {E = E} J f s t r l a h = record {
    grows = h.grows;
    kept = h.kept;
    target = h.target;
    whole = elim h.whole [ inl only ↦ inl only | inr w ↦ inr (w.0, f w.0 w.1, w.2, w.3) ];
    held = held_as r h.held;
    stage = h.stage;
    marked = h.marked;
    step = h.step;
  }
    where
      held_as : (v : Result T E) → OnOk v (IsHeld G digest l (extended a l)) → OnOk v (IsHeld J digest l (extended a l))
      held_as (Ok x) p = (p.0, f p.0 p.1, p.2, p.3)
      held_as (Err x) p = tt

-- the name wasn't there, and was set

setting_taking : (l : Log) (path : Path) → IsTrue (is_pooled path) → live_of l path ≡ None → (op : Op) → IsSetting path op → IsTaking l op
setting_taking l path pooled none (Create p) t = t
setting_taking l path pooled none (Append p bytes) t = t
setting_taking l path pooled none (Sync p) t = t
setting_taking l path pooled none (Rename a b) t = (t.0, subst (λ (q : Path). IsTrue (is_pooled q)) (sym t.1) pooled, ap (live_of l) t.1 ∙ none)
setting_taking l path pooled none (Remove p) t = t
setting_taking l path pooled none Barrier t = t
setting_taking l path pooled none (Say bytes) t = t
setting_taking l path pooled none (Claim got) t = t

grown : (path : Path) (bytes : List ℕ) (l m n : Log) → live_of l path ≡ None → path ≡ pool_name (sha256 bytes) → SetsOne path bytes l m → SetsOne path bytes m n → HasGrown m n
grown path bytes l m n none named first now = record {
  live = λ p out. elim (same_path p path) [
    | one is t ↦ subst (λ (q : Path). (live_of n q ≡ live_of m q) ⊎ ((live_of m q ≡ None) × IsBody q (live_of n q))) (sym is) at
    | two ne f ↦ inl (now.other_live p out ne)
  ];
  may = λ p x out may. elim (same_path p path) [
    | one is t ↦ elim (now.may x (subst (λ (q : Path). (disk_of n).may q x) is may)) [
      | inl was ↦ inl (subst (λ (q : Path). (disk_of m).may q x) (sym is) was)
      | inr set ↦ inr (bytes, set, is ∙ named)
    ]
    | two ne f ↦ inl (now.other_may p x out ne may)
  ];
}
  where
    at : (live_of n path ≡ live_of m path) ⊎ ((live_of m path ≡ None) × IsBody path (live_of n path))
    at = elim now.live [
      | inl same ↦ inl same
      | inr set ↦ elim first.live [ inl was ↦ inr (was ∙ none, (bytes, set, named)) | inr before ↦ inl (set ∙ sym before) ]
    ]

pub lodges_set : {T E : Type 0} (bytes digest : List ℕ) (s t : StageState) (r : Result T E) (l : Log) (a : List Op) → sha256 bytes ≡ digest → live_of l (pool_name digest) ≡ None → Sets (pool_name digest) bytes s t r l a → Lodges (λ b. b ≡ bytes) digest s t r l a
lodges_set {T = T} {E = E} bytes digest s t r l a is none h = record {
  grows = record {
    kinds = EachOp-map (IsSetting path) (IsTaking l) (setting_taking l path (name_pooled digest) none) a h.kinds;
    once = elim h.target [ inl e ↦ subst IsOnce (sym e) tt | inr e ↦ subst IsOnce (sym e.0) (tt, tt) ];
    there = elim h.target [ inl e ↦ subst (AllByRecursion At) (sym e) tt | inr e ↦ subst (AllByRecursion At) (sym e.0) (subst (λ (x : Content). IsSome x) (sym e.1) refl, tt) ];
    onward = λ before between since e.
        grown path bytes l _ _ none (ap pool_name (sym is)) (Onward-first (SetsOne path bytes) l before between since a e onward) (onward before between since e);
  };
  kept = λ some. absurd (none_some (live_of l path) none some);
  target = elim h.target [ inl e ↦ inl e | inr e ↦ inr e.0 ];
  whole = inr (bytes, refl, is, Onward-start (SetsOne path bytes) l a onward);
  held = held_of r h.set;
  stage = inr h.stage;
  marked = inl touched;
  step = λ before out. absurd (clash t.touched touched out);
}
  where
    path : Path
    path = pool_name digest

    At : Path → Type 0
    At p = IsSome (live_of (extended a l) p)

    onward : Onward (SetsOne path bytes) l a
    onward = h.onward (name_not_staged digest)

    touched : IsTrue t.touched
    touched = ap (λ (x : StageState). x.touched) h.stage

    clash : (b : Bool) → IsTrue b → IsFalse b → ⊥
    clash b t_is f_is = let both : true ≡ false = sym t_is ∙ f_is in cc

    held_of : (v : Result T E) → OnOk v (live_of (extended a l) path ≡ Some bytes) → OnOk v (IsHeld (λ b. b ≡ bytes) digest l (extended a l))
    held_of (Ok x) p = (bytes, refl, is, p ∙ sym (ap (λ (y : Content). option_or y (Some bytes)) none))
    held_of (Err x) p = tt

-- from a length that the host gave

pub absent_of : (n : Option ℕ) (x : Content) → n ≡ option_map length x → is_some n ≡ false → x ≡ None
absent_of n None e h = refl
absent_of n (Some c) e h = absurd (let b : true ≡ false = sym (ap is_some e) ∙ h in cc)

pub there_of : (n : Option ℕ) (x : Content) → n ≡ option_map length x → is_some n ≡ true → IsSome x
there_of n None e h = absurd (let b : false ≡ true = sym (ap is_some e) ∙ h in cc)
there_of n (Some c) e h = refl
