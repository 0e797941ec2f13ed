-- Files are taken into the pool: the store stands for its state on.
use Rattle.std.proofs.Common.{◌≡◌, ◌⊎◌, inl, inr, ℕ, Bool, true, false, List, ◌++◌, Some, None, IsTrue, IsFalse, refl, sym, ◌∙◌, subst}
use Rattle.ap_host.specs.declared.host.Op.{Op}
use Rattle.ap_host.specs.declared.host.Op.TheVariants.{Create, Append, Sync, Rename, Remove, Barrier, Say, Claim}
use Rattle.ap_host.specs.Disk.{Path, Content, Log, disk_of, extended, live_of, Images, Throughout}
use Rattle.ap_host.specs.Changes.{EachOp, TouchesOnly, SameExcept}
use Rattle.ap_host.proofs.DiskLemmas.{Throughout-end}
use Rattle.ap_host.proofs.ChangeLemmas.{EachOp-map, after_same}
use Rattle.ap_host.proofs.LegalLemmas.{law_of_live_image, image_at}
use Rattle.run_model.specs.Run.{Grows, AtRest}
use Rattle.stage_file.specs.Stage.{is_staged}
use Rattle.hash_pool.specs.Names.{is_pooled}
use Rattle.hash_pool.specs.Growth.{IsTaking, PoolGrows, HasGrown}
use Rattle.hash_pool.proofs.GrowthLemmas.{law_of_growth}
use Rattle.machine_state.specs.Values.{StateView}
use Rattle.catalogue_root.specs.Store.{root, IsRootOf, Fits, Open, store}
use Rattle.catalogue_root.proofs.FitLemmas.{Free, staged_free, by_free, root_not_staged, pooled_not_root, free_fits, taken_fits, open_serves}

-- the paths that taking in touches
abbrev pub Taken : Log → Path → Type 0
Taken l q = IsTrue (is_staged q) ⊎ (IsTrue (is_pooled q) × (live_of l q ≡ None))

pub taking_each : (l : Log) (Q : Op → Type 0) → ((p : Path) → IsTrue (is_staged p) → Q (Create p)) → ((p : Path) (b : List ℕ) → IsTaking l (Append p b) → Q (Append p b)) → ((p : Path) → IsTrue (is_staged p) → Q (Sync p)) → ((a b : Path) → IsTaking l (Rename a b) → Q (Rename a b)) → (ops : List Op) → EachOp (IsTaking l) ops → EachOp Q ops
taking_each l Q c a s r ops each = EachOp-map (IsTaking l) Q one ops each
  where
    one : (op : Op) → IsTaking l op → Q op
    one (Create p) w = c p w
    one (Append p b) w = a p b w
    one (Sync p) w = s p w
    one (Rename x y) w = r x y w
    one (Remove p) w = absurd w
    one Barrier w = absurd w
    one (Say b) w = absurd w
    one (Claim b) w = absurd w

taking_touches : (l : Log) (ops : List Op) → EachOp (IsTaking l) ops → EachOp (TouchesOnly (Taken l)) ops
taking_touches l ops each = taking_each l (TouchesOnly (Taken l)) (λ p is. inl is) (λ p b w. inl w.0) (λ p is. inl is) (λ a b w. (inl w.0, inr (w.1, w.2))) ops each

-- ---- from one moment to a later one: at each path stands what stood there, or a new file of the pool
not_free : (q : Path) → ¬ Free q → IsFalse (is_staged q)
not_free q not = go (is_staged q) refl
  where
    go : (b : Bool) → is_staged q ≡ b → IsFalse (is_staged q)
    go true e = absurd (not (staged_free q e))
    go false e = e

-- what stands for some state goes on to stand for it
pub open_on : (t : StateView) (m n : Log) → HasGrown m n → Open (live_of m) t → Open (live_of n) t
open_on t m n grown o = record {
  held = o.held;
  root = subst (λ (x : Content). IsRootOf x t) (sym (law_of_growth.elsewhere m n root grown refl refl)) o.root;
  fits = λ q. by_free (Fits t q (live_of n q)) q (free_fits t q (live_of n q)) (λ not. elim (grown.live q (not_free q not)) [
    | inl same ↦ subst (Fits t q) (sym same) (o.fits q)
    | inr new ↦ taken_fits t q (live_of n q) (subst (Fits t q) new.0 (o.fits q)) new.1
  ]);
}

module _ (s : StateView) (l : Log) (a : List Op) (grows : PoolGrows l a) (rest : AtRest store s l) where
  same : Throughout (SameExcept (Taken l) l) l a
  same = after_same (Taken l) l a (taking_touches l a grows.kinds)

  grown : Throughout (HasGrown l) l a
  grown = law_of_growth.moments l a grows

  pub here : Open (live_of l) s
  here = rest (live_of l) (law_of_live_image l)

  root_not : ¬ Taken l root
  root_not (inl staged) = root_not_staged staged
  root_not (inr pooled) = pooled_not_root root pooled.0 refl

  -- what a stop might have left there
  before : (q : Path) (x : Content) → (disk_of l).may q x → Fits s q x
  before q x may = let w = image_at l q x may in subst (Fits s q) w.2 ((rest w.0 w.1).fits q)

  fits : (m : Log) → SameExcept (Taken l) l m → HasGrown l m → (q : Path) (x : Content) → (disk_of m).may q x → ¬ Free q → Fits s q x
  fits m e g q x may not = go (live_of l q) refl
    where
      go : (y : Content) → live_of l q ≡ y → Fits s q x
      go (Some b) is = before q x (e.may q x (λ taken. elim taken [
        | inl staged ↦ not (staged_free q staged)
        | inr pooled ↦ let no : None ≡ Some b = sym pooled.1 ∙ is in cc
      ]) may)
      go None is = elim (g.may q x (not_free q not) may) [
        | inl was ↦ before q x was
        | inr new ↦ taken_fits s q x (subst (Fits s q) is (here.fits q)) new
      ]

  opens : (m : Log) → SameExcept (Taken l) l m → HasGrown l m → Images m (λ f. Open f s)
  opens m e g f image = record {
    held = here.held;
    root = let w = image_at l root (f root) (e.may root (f root) root_not (image root)) in subst (λ (x : Content). IsRootOf x s) w.2 (rest w.0 w.1).root;
    fits = λ q. by_free (Fits s q (f q)) q (free_fits s q (f q)) (fits m e g q (f q) (image q));
  }

  pub grown_rest : AtRest store s (extended a l)
  grown_rest = opens (extended a l) (Throughout-end (SameExcept (Taken l) l) l a same) (Throughout-end (HasGrown l) l a grown)

  pub grown_to : (t : StateView) → Grows store s t l a
  grown_to t = record {
    quiet = law_of_growth.quiet l a grows;
    each = λ before after e f image. let o = opens (extended before l) (same before after e) (grown before after e) f image in (inl o, open_serves f s s t o);
    onward = λ earlier between after e o. open_on t (extended earlier l) (extended (earlier ++ between) l) (grows.onward earlier between after e) o;
  }
