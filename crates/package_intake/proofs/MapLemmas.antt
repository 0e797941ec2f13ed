-- Maps that keep what was noted first for each key.
use Rattle.std.proofs.lemmas.List.{map-append}
use Rattle.std.proofs.Common.{◌≡◌, ℕ, map, Bool, true, false, cond, List, [], ◌∷◌, ◌++◌, Option, Some, None, is_some, refl, sym, ap, ◌∙◌, Ordering, Equal, true≢false}
use Rattle.std.specs.Option.{option_or, option_map}
use Rattle.std.specs.Ordering.{is_eq, nat_cmp}
use Rattle.std.specs.List.{find}
use Rattle.std.specs.Str.{bytes_eq}
use Rattle.std.specs.Cmp.{IsTotalOrder}
use Rattle.std.specs.Cmp.Lexicographic.{slice_cmp}
use Rattle.std.specs.BTreeMap.{BTreeMap, get, get_by}
use Rattle.std.proofs.lemmas.Map.Text.{is_eq-slice_cmp}
use Rattle.std.proofs.lemmas.Cmp.{nat_list_cmp_total}
use Rattle.package_core.specs.Card.{Card}
use Rattle.package_core.specs.Order.{package_cmp}
use Rattle.package_intake.specs.Index.{IndexEntry, cards_of, entry_for}
use Rattle.package_intake.specs.Inside.{path_in, file_in}
use Rattle.package_intake.specs.Taking.{known_of}
use Rattle.package_intake.proofs.ListLemmas.{equal_is}

none_or : {X : Type 0} (a : Option X) → option_or a None ≡ a
none_or None = refl
none_or (Some x) = refl

some_or : {X : Type 0} (a b : Option X) → is_some a ≡ true → a ≡ option_or a b
some_or None b h = cc
some_or (Some x) b h = refl

pub map_or : {X Y : Type 0} (f : X → Y) (a : Option X) (b : Bool) (v : X) → option_map f (option_or a (cond b (Some v) None)) ≡ option_or (option_map f a) (cond b (Some (f v)) None)
map_or f (Some x) b v = refl
map_or f None true v = refl
map_or f None false v = refl

module _ {K V : Type 0} {R : K → K → Ordering} (o : IsTotalOrder R) where
  -- equal keys have one value
  alike : (m : BTreeMap K V) (k q : K) → R k q ≡ Equal → get R m k ≡ get R m q
  alike m k q h = ap (λ (f : K → Ordering). get_by f m) (λ i z. o.congr k q z h i)

  pub noted_before : (m : BTreeMap K V) (k : K) (v : V) (q : K) → is_some (get R m k) ≡ true → get R m q ≡ option_or (get R m q) (cond (is_eq (R k q)) (Some v) None)
  noted_before m k v q h = by_test (is_eq (R k q)) refl
    where
      by_test : (b : Bool) → is_eq (R k q) ≡ b → get R m q ≡ option_or (get R m q) (cond b (Some v) None)
      by_test true e = some_or (get R m q) (Some v) (ap is_some (sym (alike m k q (equal_is (R k q) e))) ∙ h)
      by_test false e = sym (none_or (get R m q))

  pub noted_now : (m n : BTreeMap K V) (k : K) (v : V) (q : K) → is_some (get R m k) ≡ false → get R n q ≡ cond (is_eq (R k q)) (Some v) (get R m q) → get R n q ≡ option_or (get R m q) (cond (is_eq (R k q)) (Some v) None)
  noted_now m n k v q h u = u ∙ by_test (is_eq (R k q)) refl
    where
      nothing : (a : Option V) → is_some a ≡ false → a ≡ None
      nothing None g = refl
      nothing (Some x) g = absurd (true≢false g)

      by_test : (b : Bool) → is_eq (R k q) ≡ b → cond b (Some v) (get R m q) ≡ option_or (get R m q) (cond b (Some v) None)
      by_test true e = ap (λ a. option_or a (Some v)) (sym (nothing (get R m q) (ap is_some (sym (alike m k q (equal_is (R k q) e))) ∙ h)))
      by_test false e = sym (none_or (get R m q))

-- what is found in a list with one more at its end
pub found_more : {X : Type 0} (test : X → Bool) (xs : List X) (x : X) → find test (xs ++ x ∷ []) ≡ option_or (find test xs) (cond (test x) (Some x) None)
found_more test [] x = refl
found_more test (y ∷ ys) x = by_test (test y) (found_more test ys x)
  where
    by_test : (b : Bool) → find test (ys ++ x ∷ []) ≡ option_or (find test ys) (cond (test x) (Some x) None) → cond b (Some y) (find test (ys ++ x ∷ [])) ≡ option_or (cond b (Some y) (find test ys)) (cond (test x) (Some x) None)
    by_test true h = refl
    by_test false h = h

pub same_bytes : (a b : List ℕ) → is_eq (slice_cmp nat_cmp a b) ≡ bytes_eq a b
same_bytes a b = is_eq-slice_cmp a b

-- the same of files by their SHA-256, whose packages are shared
module _ {V : Type 0} (value : V → Card) where
  abbrev file_by : BTreeMap (List ℕ) V → List ℕ → Option Card
  file_by m q = option_map value (get (slice_cmp nat_cmp) m q)

  through : (m n : BTreeMap (List ℕ) V) (k : List ℕ) (v : V) (q : List ℕ) → k ≡ (value v).said.sha256 → get (slice_cmp nat_cmp) n q ≡ option_or (get (slice_cmp nat_cmp) m q) (cond (is_eq (slice_cmp nat_cmp k q)) (Some v) None) → file_by n q ≡ file_in (file_by m q) (value v) q
  through m n k v q e h =
      ap (option_map value) h ∙ map_or value (get (slice_cmp nat_cmp) m q) (is_eq (slice_cmp nat_cmp k q)) v
      ∙ ap (λ b. option_or (file_by m q) (cond b (Some (value v)) None)) (same_bytes k q ∙ ap (λ (l : List ℕ). bytes_eq l q) e)

  pub file_before : (m : BTreeMap (List ℕ) V) (k : List ℕ) (v : V) (q : List ℕ) → k ≡ (value v).said.sha256 → is_some (get (slice_cmp nat_cmp) m k) ≡ true → file_by m q ≡ file_in (file_by m q) (value v) q
  file_before m k v q e h = through m m k v q e (noted_before nat_list_cmp_total m k v q h)

  pub file_now : (m n : BTreeMap (List ℕ) V) (k : List ℕ) (v : V) (q : List ℕ) → k ≡ (value v).said.sha256 → is_some (get (slice_cmp nat_cmp) m k) ≡ false → get (slice_cmp nat_cmp) n q ≡ cond (is_eq (slice_cmp nat_cmp k q)) (Some v) (get (slice_cmp nat_cmp) m q) → file_by n q ≡ file_in (file_by m q) (value v) q
  file_now m n k v q e h u = through m n k v q e (noted_now nat_list_cmp_total m n k v q h u)

-- the paths of an index with one more package
pub entry_more : (es : List IndexEntry) (e : IndexEntry) (q : Card) → entry_for (es ++ e ∷ []) q ≡ path_in (entry_for es q) e.0 e.1 q
entry_more es e q =
    ap (option_map (λ (x : IndexEntry). x.1)) (found_more (λ (x : IndexEntry). is_eq (package_cmp x.0 q)) es e)
    ∙ map_or (λ (x : IndexEntry). x.1) (find (λ (x : IndexEntry). is_eq (package_cmp x.0 q)) es) (is_eq (package_cmp e.0 q)) e

-- the known files with one more package
pub known_more : (xs : List Card) (x : Card) (q : List ℕ) → known_of (xs ++ x ∷ []) q ≡ file_in (known_of xs q) x q
known_more xs x q = found_more (λ (y : Card). bytes_eq y.said.sha256 q) xs x

pub cards_more : {V : Type 0} (value : V → Card) (shared now : List V) (v : V) (es : List IndexEntry) (e : IndexEntry) → map value shared ≡ cards_of es → now ≡ shared ++ v ∷ [] → value v ≡ e.0 → map value now ≡ cards_of (es ++ e ∷ [])
cards_more value shared now v es e h n s =
    ap (map value) n ∙ map-append value shared (v ∷ []) ∙ (λ i. h i ++ s i ∷ []) ∙ sym (map-append (λ (x : IndexEntry). x.0) es (e ∷ []))
