-- What may stand at which path.
use Rattle.std.proofs.Common.{◌≡◌, ◌==◌, ◌≢◌, ◌&&◌, ◌||◌, ◌⊎◌, ℕ, Bool, true, false, List, [], ◌∷◌, All, length, slice_index, slice_index_or, nat_eq, bytes_eq, Some, None, IsTrue, inl, inr, codes, refl, sym, ◌∙◌, ap, subst}
use Rattle.std.specs.List.{starts_with}
use Rattle.std.proofs.lemmas.Bool.{eqb-true}
use Rattle.std.proofs.lemmas.Slice.Eq.{bytes_eq-Decides}
use Rattle.sha2.specs.Sha256.{sha256}
use Rattle.ap_text.specs.Paths.{is_below}
use Rattle.ap_host.specs.Disk.{Path, Content, Files}
use Rattle.stage_file.specs.Stage.{is_staged}
use Rattle.package_core.specs.Card.{Card}
use Rattle.hash_pool.specs.Bodies.{IsBodyOf, HasBody}
use Rattle.hash_pool.specs.Growth.{IsBody}
use Rattle.hash_pool.specs.Names.{is_pooled, pool_name}
use Rattle.hash_pool.proofs.NameLemmas.{name_pooled, pooled_not_staged, not_both}
use Rattle.machine_state.specs.Values.{StateView}
use Rattle.catalogue_root.specs.Store.{IsHeld, root, IsRootOf, Fits, Open, Stored, Serves}

pub clash : {A : Type 0} → false ≡ true → A
clash h = absurd (cc)

abbrev pub is_public : Path → Bool
is_public q = is_below (codes "public") q

-- the package of this place in a list
abbrev pub item : List Card → ℕ → Card → Card
item xs k d = slice_index_or xs k d

-- ---- the paths at which anything fits: the root, and those of staged files
abbrev pub Staged : Path → Type 0
Staged q = IsTrue (is_staged q)

abbrev pub is_free : Path → Bool
is_free q = is_staged q || bytes_eq q root

abbrev pub Free : Path → Type 0
Free q = IsTrue (is_free q)

pub staged_free : (q : Path) → Staged q → Free q
staged_free q is = ap (λ (b : Bool). b || bytes_eq q root) is

pub root_free : Free root
root_free = refl

free_cases : (q : Path) → Free q → Staged q ⊎ (q ≡ root)
free_cases q free = go (is_staged q) refl free
  where
    go : (b : Bool) → is_staged q ≡ b → (b || bytes_eq q root) ≡ true → Staged q ⊎ (q ≡ root)
    go true e is = inl e
    go false e is = inr ((bytes_eq-Decides q root).0 is)

-- at each path, either anything fits or not
pub by_free : (P : Type 0) (q : Path) → (Free q → P) → (¬ Free q → P) → P
by_free P q free other = go (is_free q) refl
  where
    go : (b : Bool) → is_free q ≡ b → P
    go true e = free e
    go false e = other (λ is. not_both (is_free q) is e)

pub root_not_staged : ¬ Staged root
root_not_staged h = clash h

-- (the first bytes of these folders differ, or the second)
front : (a b : Bool) → (a && b) ≡ true → a ≡ true
front true b e = refl
front false b e = absurd (cc)

begins : (b c : ℕ) (q folder : Path) → is_below (c ∷ folder) (b ∷ q) ≡ true → b ≡ c
begins b c q folder is = sym (eqb-true c b (front (nat_eq c b) (starts_with nat_eq q folder) (front (starts_with nat_eq (b ∷ q) (c ∷ folder)) (slice_index (b ∷ q) (length (c ∷ folder)) == 47) is)))

pub public_not_staged : (q : Path) → IsTrue (is_public q) → ¬ Staged q
public_not_staged [] is staged = clash is
public_not_staged (b ∷ q) is staged =
    let p : b ≡ 112 = begins b 112 q (codes "ublic") is in
    let s : b ≡ 115 = begins b 115 q (codes "tage") staged in
    let no : 112 ≡ 115 = sym p ∙ s in
    clash (ap (λ (x : ℕ). x == 115) no)

short : (x y : Bool) → ((x && false) && y) ≡ true → ⊥
short true y e = clash e
short false y e = clash e

second : (a b c d : ℕ) (q folder : Path) → is_below (a ∷ d ∷ folder) (b ∷ c ∷ q) ≡ true → c ≡ d
second a b c d q folder is =
    let whole = front (starts_with nat_eq (b ∷ c ∷ q) (a ∷ d ∷ folder)) (slice_index (b ∷ c ∷ q) (length (a ∷ d ∷ folder)) == 47) is in
    sym (eqb-true d c (front (nat_eq d c) (starts_with nat_eq q folder) (behind (nat_eq a b) whole)))
  where
    behind : (x : Bool) → (x && (nat_eq d c && starts_with nat_eq q folder)) ≡ true → (nat_eq d c && starts_with nat_eq q folder) ≡ true
    behind true e = e
    behind false e = absurd (cc)

pub public_not_pooled : (q : Path) → IsTrue (is_public q) → IsTrue (is_pooled q) → ⊥
public_not_pooled [] public pooled = clash public
public_not_pooled (b ∷ []) public pooled = short (nat_eq 112 b) (slice_index (b ∷ []) 6 == 47) public
public_not_pooled (b ∷ c ∷ q) public pooled =
    let u : c ≡ 117 = second 112 b c 117 q (codes "blic") public in
    let o : c ≡ 111 = second 112 b c 111 q (codes "ol") pooled in
    let apart : 117 ≡ 111 = sym u ∙ o in
    clash (ap (λ (x : ℕ). x == 111) apart)

public_not_free : (q : Path) → IsTrue (is_public q) → ¬ Free q
public_not_free q is free = elim (free_cases q free) [
  | inl staged ↦ public_not_staged q is staged
  | inr at ↦ clash (subst (λ (x : Path). IsTrue (is_public x)) at is)
]

pub pooled_not_root : (q : Path) → IsTrue (is_pooled q) → q ≢ root
pooled_not_root q is at = clash (subst (λ (x : Path). IsTrue (is_pooled x)) at is)

pub pooled_not_free : (q : Path) → IsTrue (is_pooled q) → ¬ Free q
pooled_not_free q is free = elim (free_cases q free) [
  | inl staged ↦ not_both (is_staged q) staged (pooled_not_staged q is)
  | inr at ↦ pooled_not_root q is at
]

-- ---- what fits
pub free_fits : (s : StateView) (q : Path) (x : Content) → Free q → Fits s q x
free_fits s q x free = record {
  bodies = λ k d lt e. absurd (pooled_not_free q (subst (λ (p : Path). IsTrue (is_pooled p)) (sym e) (name_pooled (item s.known k d).said.sha256)) free);
  named = λ is bytes e. absurd (pooled_not_free q is free);
  public = λ is. absurd (public_not_free q is free);
}

-- where nothing stands, a file that has the name of its SHA-256 fits too
pub taken_fits : (s : StateView) (q : Path) (x : Content) → Fits s q None → IsBody q x → Fits s q x
taken_fits s q x none body = record {
  bodies = λ k d lt e. let b = none.bodies k d lt e in absurd (let no : None ≡ Some b.bytes = b.file in cc);
  named = λ is bytes e.
      let same : Some body.0 ≡ Some bytes = sym body.1 ∙ e in
      let one : body.0 ≡ bytes = cc in
      body.2 ∙ ap (λ (b : List ℕ). pool_name (sha256 b)) one;
  public = λ is. absurd (public_not_pooled q is (subst (λ (p : Path). IsTrue (is_pooled p)) (sym body.2) (name_pooled (sha256 body.0))));
}

-- what fits a state fits the next one, where that has its bodies there
pub next_fits : (s t : StateView) (f : Files) (q : Path) → Fits s q (f q) → All (HasBody f) t.known → Fits t q (f q)
next_fits s t f q fits bodies = record {
  bodies = λ k d lt e. subst (λ (p : Path). IsBodyOf (item t.known k d) (f p)) (sym e) (bodies k d lt);
  named = fits.named;
  public = fits.public;
}

pub bodies_of : (s : StateView) (f : Files) → ((q : Path) → Fits s q (f q)) → All (HasBody f) s.known
bodies_of s f fits k d lt = (fits (pool_name (item s.known k d).said.sha256)).bodies k d lt refl

pub fits_serve : (s t u : StateView) (q : Path) (x : Content) → Fits s q x → Serves t u q x
fits_serve s t u q x fits = fits.public

-- ---- files that stand for a state
pub open_stored : (f : Files) (s : StateView) → Open f s → Stored f s
open_stored f s o = record { held = o.held; root = o.root; bodies = bodies_of s f o.fits; named = λ p bytes is e. (o.fits p).named is bytes e }

-- and the other way, where clients find what they are promised
pub stored_open : (f : Files) (s : StateView) → Stored f s → ((q : Path) → Serves s s q (f q)) → Open f s
stored_open f s o serves = record {
  held = o.held;
  root = o.root;
  fits = λ q. record {
    bodies = λ k d lt e. subst (λ (p : Path). IsBodyOf (item s.known k d) (f p)) (sym e) (o.bodies k d lt);
    named = λ is bytes e. o.named q bytes is e;
    public = serves q;
  };
}

pub open_serves : (f : Files) (s t u : StateView) → Open f s → (q : Path) → Serves t u q (f q)
open_serves f s t u o q = fits_serve s t u q (f q) (o.fits q)

-- other files with this root, and the same elsewhere
pub open_with : (t : StateView) (f g : Files) → IsHeld t → IsRootOf (g root) t → ((q : Path) → ¬ Free q → g q ≡ f q) → ((q : Path) → Fits t q (f q)) → Open g t
open_with t f g held at same fits = record {
  held = held;
  root = at;
  fits = λ q. by_free (Fits t q (g q)) q (free_fits t q (g q)) (λ not. subst (Fits t q) (sym (same q not)) (fits q));
}

pub open_along : (t : StateView) (f g : Files) → g root ≡ f root → ((q : Path) → ¬ Free q → g q ≡ f q) → Open f t → Open g t
open_along t f g at same o = open_with t f g o.held (subst (λ (x : Content). IsRootOf x t) (sym at) o.root) same o.fits

pub open_same : (t : StateView) (f g : Files) → ((q : Path) → g q ≡ f q) → Open f t → Open g t
open_same t f g same o = open_along t f g (same root) (λ q not. same q) o

pub bodies_along : (f g : Files) (ps : List Card) → ((q : Path) → g q ≡ f q) → All (HasBody f) ps → All (HasBody g) ps
bodies_along f g ps same all k d lt =
    let b = all k d lt in
    record { bytes = b.bytes; file = same (pool_name (item ps k d).said.sha256) ∙ b.file; said = b.said }
