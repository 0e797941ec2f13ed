-- Sorted lists: what holds of each member, and of which members.
use Rattle.std.proofs.lemmas.List.{length-map, get_or-map}
use Rattle.std.proofs.Common.{take_all, take-append-drop, ◌≤◌, ◌≡◌, ℕ, zero, suc, ◌+◌, ◌<◌, Bool, true, false, cond, ◌||◌, List, [], ◌∷◌, ◌++◌, map, take, drop, add-one, length, get_or, Some, refl, sym, ap, ◌∙◌, subst, arith, Ordering, Less, Equal, Greater}
use Rattle.std.specs.Ordering.{is_eq}
use Rattle.std.specs.List.{All, AllByRecursion}
use Rattle.std.specs.Cmp.{IsTotalOrder}
use Rattle.std.proofs.lemmas.Cmp.{tied_itself, alike_right}
use Rattle.package_list.proofs.SortedLemmas.{drop_at_member}
use Rattle.package_list.specs.Sorted.{IsBelow, IsAscending, placed, put, union, equal_of, has}

-- ---- by places and by recursion
pub by_places : {X : Type 0} (P : X → Type 0) (xs : List X) → AllByRecursion P xs → All P xs
by_places P [] h k d l = absurd (omega arith)
by_places P (x ∷ xs) h zero d l = h.0
by_places P (x ∷ xs) h (suc k) d l = by_places P xs h.1 k d (omega arith)

pub each_of : {X : Type 0} (P : X → Type 0) (xs : List X) → All P xs → AllByRecursion P xs
each_of P [] h = tt
each_of P (x ∷ xs) h = (h 0 x (omega arith), each_of P xs (λ k d l. h (suc k) d (omega arith)))

pub all_map : {X : Type 0} (P Q : X → Type 0) → ((x : X) → P x → Q x) → (xs : List X) → AllByRecursion P xs → AllByRecursion Q xs
all_map P Q f [] h = tt
all_map P Q f (x ∷ xs) h = (f x h.0, all_map P Q f xs h.1)

pub all_append : {X : Type 0} (P : X → Type 0) (xs ys : List X) → AllByRecursion P xs → AllByRecursion P ys → AllByRecursion P (xs ++ ys)
all_append P [] ys p q = q
all_append P (x ∷ xs) ys p q = (p.0, all_append P xs ys p.1 q)

pub equal_is : (o : Ordering) → is_eq o ≡ true → o ≡ Equal
equal_is Less h = cc
equal_is Equal h = refl
equal_is Greater h = cc

module _ {X : Type 0} {R : X → X → Ordering} (o : IsTotalOrder R) where
  -- what holds of each of both lists holds of each of the union
  all_put : (P : X → Type 0) (xs : List X) (y : X) → AllByRecursion P xs → P y → AllByRecursion P (put R xs y)
  all_put P [] y h p = (p, tt)
  all_put P (x ∷ xs) y h p = by_order (R x y) (all_put P xs y h.1 p)
    where
      by_order : (r : Ordering) → AllByRecursion P (put R xs y) → AllByRecursion P (placed R r x y xs (put R xs y))
      by_order Less more = (h.0, more)
      by_order Equal more = h
      by_order Greater more = (p, h)

  pub all_union : (P : X → Type 0) (xs ys : List X) → AllByRecursion P xs → AllByRecursion P ys → AllByRecursion P (union R xs ys)
  all_union P xs [] h g = h
  all_union P xs (y ∷ ys) h g = all_union P (put R xs y) ys (all_put P xs y h g.0) g.1

  -- ---- what is found
  pub found_equal : (xs : List X) (y e : X) → equal_of R xs y ≡ Some e → R e y ≡ Equal
  found_equal [] y e h = cc
  found_equal (x ∷ xs) y e h = by_test (is_eq (R x y)) refl h (found_equal xs y e)
    where
      by_test : (b : Bool) → is_eq (R x y) ≡ b → cond b (Some x) (equal_of R xs y) ≡ Some e → (equal_of R xs y ≡ Some e → R e y ≡ Equal) → R e y ≡ Equal
      by_test true f g more = let s : x ≡ e = cc in subst (λ z. R z y ≡ Equal) s (equal_is (R x y) f)
      by_test false f g more = more g

  pub found_holds : (P : X → Type 0) (xs : List X) (y e : X) → AllByRecursion P xs → equal_of R xs y ≡ Some e → P e
  found_holds P [] y e p h = cc
  found_holds P (x ∷ xs) y e p h = by_test (is_eq (R x y)) h (found_holds P xs y e p.1)
    where
      by_test : (b : Bool) → cond b (Some x) (equal_of R xs y) ≡ Some e → (equal_of R xs y ≡ Some e → P e) → P e
      by_test true g more = let s : x ≡ e = cc in subst P s p.0
      by_test false g more = more g

  -- equals are found alike
  pub found_alike : (xs : List X) (y z : X) → R y z ≡ Equal → equal_of R xs y ≡ equal_of R xs z
  found_alike [] y z h = refl
  found_alike (x ∷ xs) y z h = (λ i. cond (is_eq (alike_right o y z x h i)) (Some x) (found_alike xs y z h i))

  pub found_itself : (xs : List X) (y e : X) → equal_of R xs y ≡ Some e → equal_of R xs e ≡ Some e
  found_itself xs y e h = found_alike xs e y (found_equal xs y e h) ∙ h

  -- in an ascending list each is found
  below_itself : (x : X) (xs : List X) → IsBelow R x xs → AllByRecursion (λ p. equal_of R xs p ≡ Some p) xs → (ys : List X) → IsBelow R x ys → AllByRecursion (λ p. equal_of R xs p ≡ Some p) ys → AllByRecursion (λ p. equal_of R (x ∷ xs) p ≡ Some p) ys
  below_itself x xs b h [] c g = tt
  below_itself x xs b h (y ∷ ys) c g = (ap (λ r. cond (is_eq r) (Some x) (equal_of R xs y)) c.0 ∙ g.0, below_itself x xs b h ys c.1 g.1)

  pub each_itself : (xs : List X) → IsAscending R xs → AllByRecursion (λ p. equal_of R xs p ≡ Some p) xs
  each_itself [] a = tt
  each_itself (x ∷ xs) a =
      let more = each_itself xs a.1 in
      (ap (λ r. cond (is_eq r) (Some x) (equal_of R xs x)) (tied_itself o x), below_itself x xs a.0 more xs a.0 more)

  pub has_found : (xs : List X) (y : X) → has R xs y ≡ true → (e : X) × (equal_of R xs y ≡ Some e)
  has_found [] y h = cc
  has_found (x ∷ xs) y h = by_test (is_eq (R x y)) h (has_found xs y)
    where
      by_test : (b : Bool) → (b || has R xs y) ≡ true → (has R xs y ≡ true → (e : X) × (equal_of R xs y ≡ Some e)) → (e : X) × (cond b (Some x) (equal_of R xs y) ≡ Some e)
      by_test true g more = (x, refl)
      by_test false g more = more g

  pub found_has : (xs : List X) (y e : X) → equal_of R xs y ≡ Some e → has R xs y ≡ true
  found_has [] y e h = cc
  found_has (x ∷ xs) y e h = by_test (is_eq (R x y)) h (found_has xs y e)
    where
      by_test : (b : Bool) → cond b (Some x) (equal_of R xs y) ≡ Some e → (equal_of R xs y ≡ Some e → has R xs y ≡ true) → (b || has R xs y) ≡ true
      by_test true g more = refl
      by_test false g more = more g

  -- ---- lists that are equal one by one
  abbrev pub AreEqual : List X → List X → Type 0
  AreEqual [] [] = Unit {0}
  AreEqual (p ∷ ps) (q ∷ qs) = (R p q ≡ Equal) × AreEqual ps qs
  AreEqual [] (q ∷ qs) = ⊥
  AreEqual (p ∷ ps) [] = ⊥

  below_alike : (p q : X) (ps qs : List X) → R p q ≡ Equal → AreEqual ps qs → IsBelow R p ps → IsBelow R q qs
  below_alike p q [] [] h e b = tt
  below_alike p q [] (y ∷ ys) h e b = absurd e
  below_alike p q (x ∷ xs) [] h e b = absurd e
  below_alike p q (x ∷ xs) (y ∷ ys) h e b = (sym (o.congr p q y h) ∙ sym (alike_right o x y p e.0) ∙ b.0, below_alike p q xs ys h e.1 b.1)

  pub ascending_alike : (ps qs : List X) → AreEqual ps qs → IsAscending R ps → IsAscending R qs
  ascending_alike [] [] e a = tt
  ascending_alike [] (y ∷ ys) e a = absurd e
  ascending_alike (x ∷ xs) [] e a = absurd e
  ascending_alike (x ∷ xs) (y ∷ ys) e a = (below_alike x y xs ys e.0 e.1 a.0, ascending_alike xs ys e.1 a.1)

-- ---- one more of the first
taken_on : {X : Type 0} (xs : List X) (i : ℕ) (x : X) (rest : List X) → drop i xs ≡ x ∷ rest → take (suc i) xs ≡ take i xs ++ x ∷ []
taken_on [] zero x rest e = cc
taken_on [] (suc i) x rest e = cc
taken_on (y ∷ ys) zero x rest e = let s : y ≡ x = cc in ap (λ z. z ∷ []) s
taken_on (y ∷ ys) (suc i) x rest e = ap (λ l. y ∷ l) (taken_on ys i x rest e)

pub next_split : {A B : Type 0} (f : A → B) (xs : List A) (i : ℕ) (x : A) → i < length xs → x ≡ get_or xs i x → drop i (map f xs) ≡ f x ∷ drop (i + 1) (map f xs)
next_split f xs i x l at = drop_at_member f xs i x l at

pub next_taken : {A B : Type 0} (f : A → B) (xs : List A) (i : ℕ) (x : A) → i < length xs → x ≡ get_or xs i x → take (i + 1) (map f xs) ≡ take i (map f xs) ++ f x ∷ []
next_taken f xs i x l at = ap (λ n. take n (map f xs)) (add-one i) ∙ taken_on (map f xs) i (f x) (drop (i + 1) (map f xs)) (drop_at_member f xs i x l at)

-- what holds of all members holds of the one at a place
pub at_member : {A B : Type 0} (f : A → B) (P : B → Type 0) (xs : List A) (ys : List B) (i : ℕ) (x : A) → map f xs ≡ ys → All P ys → i < length xs → x ≡ get_or xs i x → P (f x)
at_member {A = A} {B = B} f P xs ys i x e all l at =
    let here : P (get_or (map f xs) i (f x)) = subst (λ (zs : List B). All P zs) (sym e) all i (f x) (omega (arith, l, length-map xs f)) in
    subst P (get_or-map f xs i x (f x) l ∙ ap f (sym at)) here

-- the first of as many as there are, or more, are all
pub all_first : {A B : Type 0} (f : A → B) (xs : List A) (ys : List B) (i : ℕ) → map f xs ≡ ys → length xs ≤ i → take i (map f xs) ≡ ys
all_first f xs ys i e l = take_all i (map f xs) (omega (arith, l, length-map xs f)) ∙ e

pub split_at : {A B : Type 0} (f : A → B) (xs : List A) (ys : List B) (i : ℕ) (x : A) → map f xs ≡ ys → i < length xs → x ≡ get_or xs i x → take i (map f xs) ++ f x ∷ drop (i + 1) (map f xs) ≡ ys
split_at f xs ys i x e l at = ap (λ zs. take i (map f xs) ++ zs) (sym (drop_at_member f xs i x l at)) ∙ take-append-drop i (map f xs) ∙ e
