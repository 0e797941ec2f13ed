-- Members of one triple stand side by side.
use Rattle.std.proofs.Common.{◌≡◌, ℕ, List, [], ◌∷◌, ◌++◌, Bool, true, false, not, ◌||◌, ◌&&◌, take, drop, suc, zero, refl, sym, ap, ◌∙◌, subst, Ordering, Less, Equal, Greater, inl, inr, ◌⊎◌}
use Rattle.std.specs.Ordering.{is_eq, ordering_then, ordering_reverse}
use Rattle.std.specs.List.{list_any}
use Rattle.std.specs.Cmp.{IsTotalOrder}
use Rattle.std.proofs.lemmas.Cmp.{alike_right, tied_back}
use Rattle.std.proofs.lemmas.Bool.{false≢true}
use Rattle.std.proofs.lemmas.List.{take-append-drop}
use Rattle.package_list.specs.Sorted.{IsBelow, IsAscending, AllLess, StartsAt, has, last_is, first_is}
use Rattle.package_core.specs.declared.package.Package.{Package}
use Rattle.package_core.specs.Order.{package_cmp, triple_cmp, body_cmp, same_triple}
use Rattle.package_core.proofs.OrderLaws.{triple_total, package_total, same_triple-is}
use Rattle.package_list.specs.Lists.{clashes}
use Rattle.package_list.proofs.SortedLemmas.{has_at, turned, ascending_drop, below_more}

-- functions that agree everywhere are one
pub agreeing : {A B : Type 0} {f g : A → B} → ((x : A) → f x ≡ g x) → f ≡ g
agreeing h = λ i x. h x i

pub tied : (a : Ordering) → is_eq a ≡ true → a ≡ Equal
tied Less h = cc
tied Equal h = refl
tied Greater h = cc

module _ {X : Type 0} {T : X → X → Ordering} (S : X → X → Ordering) {R : X → X → Ordering} (t : IsTotalOrder T) (r : IsTotalOrder R) (both : (x y : X) → R x y ≡ ordering_then (T x y) (S x y)) where
  -- less in all is less or equal in the first
  pub first_of : (x y : X) → R x y ≡ Less → (T x y ≡ Less) ⊎ (T x y ≡ Equal)
  first_of x y h = by_order (T x y) (S x y) (sym (both x y) ∙ h)
    where
      by_order : (a b : Ordering) → ordering_then a b ≡ Less → (a ≡ Less) ⊎ (a ≡ Equal)
      by_order Less b h = inl refl
      by_order Equal b h = inr refl
      by_order Greater b h = cc

  -- what stands between two of one triple has that triple
  between : (x y z : X) → R x y ≡ Less → R y z ≡ Less → T x z ≡ Equal → (T x y ≡ Equal) × (T y z ≡ Equal)
  between x y z h g e =
      elim (first_of x y h) [
        | inl l ↦ elim (first_of y z g) [
          | inl m ↦ absurd (apart (T x z) e (t.trans x y z l m))
          | inr m ↦ absurd (apart (T x z) e (sym (alike_right t y z x m) ∙ l))
        ]
        | inr l ↦ (l, sym (t.congr x y z l) ∙ e)
      ]
    where
      apart : (a : Ordering) → a ≡ Equal → a ≡ Less → ⊥
      apart a e h = cc

  -- among members that are less, the last decides
  pub any_before : (xs : List X) (p : X) → IsAscending R xs → AllLess R xs p → list_any (λ q. is_eq (T q p)) xs ≡ last_is (λ q. is_eq (T q p)) xs
  any_before [] p a h = refl
  any_before (x ∷ []) p a h = or_false (is_eq (T x p))
    where
      or_false : (b : Bool) → (b || false) ≡ b
      or_false true = refl
      or_false false = refl
  any_before (x ∷ y ∷ ys) p a h = by_test (is_eq (T x p)) refl (any_before (y ∷ ys) p a.1 h.1)
    where
      next : is_eq (T x p) ≡ true → is_eq (T y p) ≡ true
      next e = ap is_eq (between x y p a.0.0 h.1.0 (tied (T x p) e)).1

      true_or : (b c : Bool) → b ≡ true → true ≡ (b || c)
      true_or b c e = rw e refl

      by_test : (b : Bool) → is_eq (T x p) ≡ b → list_any (λ q. is_eq (T q p)) (y ∷ ys) ≡ last_is (λ q. is_eq (T q p)) (y ∷ ys) → (b || list_any (λ q. is_eq (T q p)) (y ∷ ys)) ≡ last_is (λ q. is_eq (T q p)) (y ∷ ys)
      by_test true e more = true_or (is_eq (T y p)) (list_any (λ q. is_eq (T q p)) ys) (next e) ∙ more
      by_test false e more = more

  -- among members that are greater, the first decides
  pub any_behind : (x : X) (xs : List X) (p : X) → IsAscending R (x ∷ xs) → R p x ≡ Less → list_any (λ q. is_eq (T q p)) (x ∷ xs) ≡ is_eq (T x p)
  any_behind x xs p a h = by_test (is_eq (T x p)) refl
    where
      none : (zs : List X) → IsBelow R x zs → is_eq (T x p) ≡ false → list_any (λ q. is_eq (T q p)) zs ≡ false
      none [] b e = refl
      none (z ∷ zs) b e = by_z (is_eq (T z p)) refl (none zs b.1 e)
        where
          by_z : (c : Bool) → is_eq (T z p) ≡ c → list_any (λ q. is_eq (T q p)) zs ≡ false → (c || list_any (λ q. is_eq (T q p)) zs) ≡ false
          by_z true g more = absurd (false≢true (sym e ∙ ap is_eq (tied_back t p x (between p x z h b.0 (tied_back t z p (tied (T z p) g))).0)))
          by_z false g more = more

      by_test : (c : Bool) → is_eq (T x p) ≡ c → (c || list_any (λ q. is_eq (T q p)) xs) ≡ c
      by_test true e = refl
      by_test false e = none xs a.0 e

  below_take : (i : ℕ) (x : X) (xs : List X) → IsBelow R x xs → IsBelow R x (take i xs)
  below_take zero x xs b = tt
  below_take (suc i) x [] b = tt
  below_take (suc i) x (y ∷ ys) b = (b.0, below_take i x ys b.1)

  ascending_take : (i : ℕ) (xs : List X) → IsAscending R xs → IsAscending R (take i xs)
  ascending_take zero xs a = tt
  ascending_take (suc i) [] a = tt
  ascending_take (suc i) (x ∷ xs) a = (below_take i x xs a.0, ascending_take i xs a.1)

  any_append : (p : X → Bool) (xs ys : List X) → list_any p (xs ++ ys) ≡ (list_any p xs || list_any p ys)
  any_append p [] ys = refl
  any_append p (x ∷ xs) ys = by_test (p x) (any_append p xs ys)
    where
      by_test : (b : Bool) → list_any p (xs ++ ys) ≡ (list_any p xs || list_any p ys) → (b || list_any p (xs ++ ys)) ≡ ((b || list_any p xs) || list_any p ys)
      by_test true h = refl
      by_test false h = h

  -- one triple, and not equal
  abbrev pub differs : X → X → Bool
  differs q p = is_eq (T q p) && not (is_eq (R q p))

  and_true : (b : Bool) → (b && true) ≡ b
  and_true true = refl
  and_true false = refl

  and_false : (b : Bool) → (b && false) ≡ false
  and_false true = refl
  and_false false = refl

  -- among members that are less, one clashes exactly where one has the triple
  differs_before : (xs : List X) (p : X) → AllLess R xs p → list_any (λ q. differs q p) xs ≡ list_any (λ q. is_eq (T q p)) xs
  differs_before [] p h = refl
  differs_before (x ∷ xs) p h = rw h.0 ((λ k. and_true (is_eq (T x p)) k || differs_before xs p h.1 k))

  -- and so among members that are greater
  differs_behind : (xs : List X) (p : X) → IsBelow R p xs → list_any (λ q. differs q p) xs ≡ list_any (λ q. is_eq (T q p)) xs
  differs_behind [] p h = refl
  differs_behind (x ∷ xs) p h = rw (r.antisymm x p ∙ ap ordering_reverse h.0) ((λ k. and_true (is_eq (T x p)) k || differs_behind xs p h.1 k))

  pub first_behind : (xs : List X) (p : X) → IsAscending R xs → IsBelow R p xs → list_any (λ q. is_eq (T q p)) xs ≡ first_is (λ q. is_eq (T q p)) xs
  first_behind [] p a b = refl
  first_behind (x ∷ xs) p a b = any_behind x xs p a b.0

  -- a package clashes with a member exactly where a neighbour has its triple
  pub differs_beside : (xs : List X) (i : ℕ) (p : X) → IsAscending R xs → AllLess R (take i xs) p → IsBelow R p (drop i xs)
      → list_any (λ q. differs q p) xs ≡ (last_is (λ q. is_eq (T q p)) (take i xs) || first_is (λ q. is_eq (T q p)) (drop i xs))
  differs_beside xs i p a before above =
      ap (list_any (λ q. differs q p)) (sym (take-append-drop i xs)) ∙ any_append (λ q. differs q p) (take i xs) (drop i xs)
      ∙ (λ k. (differs_before (take i xs) p before ∙ any_before (take i xs) p (ascending_take i xs a) before) k || (differs_behind (drop i xs) p above ∙ first_behind (drop i xs) p (ascending_drop r i xs a) above) k)

  -- what stands behind the place of a package, where no equal is there
  pub above_other : (x p : X) (xs : List X) → IsBelow R x xs → (R x p ≡ Less → ⊥) → is_eq (R x p) ≡ false → IsBelow R p (x ∷ xs)
  above_other x p xs b s h = (turned r x p (greater (R x p) s h), below_more r p x xs (turned r x p (greater (R x p) s h)) b)
    where
      greater : (o : Ordering) → (o ≡ Less → ⊥) → is_eq o ≡ false → o ≡ Greater
      greater Less s h = absurd (s refl)
      greater Equal s h = cc
      greater Greater s h = refl

  below_equal : (p x : X) (xs : List X) → R x p ≡ Equal → IsBelow R x xs → IsBelow R p xs
  below_equal p x [] e b = tt
  below_equal p x (z ∷ zs) e b = (sym (r.congr x p z e) ∙ b.0, below_equal p x zs e b.1)

  pub above_equal : (x p : X) (xs : List X) → IsBelow R x xs → is_eq (R x p) ≡ true → IsBelow R p xs
  above_equal x p xs b h = below_equal p x xs (tied (R x p) h) b

pub last_is_push : {X : Type 0} (p : X → Bool) (xs : List X) (x : X) → last_is p (xs ++ x ∷ []) ≡ p x
last_is_push p [] x = refl
last_is_push p (y ∷ []) x = refl
last_is_push p (y ∷ z ∷ zs) x = last_is_push p (z ∷ zs) x

take_more_at : {X : Type 0} (n : ℕ) (xs : List X) (x : X) (rest : List X) → drop n xs ≡ x ∷ rest → take (suc n) xs ≡ take n xs ++ x ∷ []
take_more_at zero [] x rest h = cc
take_more_at zero (y ∷ ys) x rest h = ap (λ z. z ∷ []) (first y x ys rest h)
  where
    first : {X : Type 0} (y x : X) (ys rest : List X) → y ∷ ys ≡ x ∷ rest → y ≡ x
    first y x ys rest h = cc
take_more_at (suc n) [] x rest h = cc
take_more_at (suc n) (y ∷ ys) x rest h = ap (λ l. y ∷ l) (take_more_at n ys x rest h)

-- the last of a front is the member before its end
pub last_at : {X : Type 0} (p : X → Bool) (n i : ℕ) (xs : List X) (x : X) (rest : List X) → i ≡ suc n → drop n xs ≡ x ∷ rest → last_is p (take i xs) ≡ p x
last_at p n i xs x rest e h = ap (λ k. last_is p (take k xs)) e ∙ ap (last_is p) (take_more_at n xs x rest h) ∙ last_is_push p (take n xs) x

pub triple_begins : (x y : Package) → package_cmp x y ≡ ordering_then (triple_cmp x y) (body_cmp x y)
unfolding package_cmp
triple_begins x y = refl

-- a clash is one triple without equality
clash-is : (xs : List Package) (p : Package) → clashes xs p ≡ list_any (λ q. differs body_cmp triple_total package_total triple_begins q p) xs
clash-is xs p = ap (λ f. list_any f xs) (agreeing (λ q. ap (λ b. b && not (is_eq (package_cmp q p))) (same_triple-is q p)))

triple_last : (xs : List Package) (p : Package) → last_is (λ q. same_triple q p) xs ≡ last_is (λ q. is_eq (triple_cmp q p)) xs
triple_last xs p = ap (λ f. last_is f xs) (agreeing (λ q. same_triple-is q p))

triple_first : (xs : List Package) (p : Package) → first_is (λ q. same_triple q p) xs ≡ first_is (λ q. is_eq (triple_cmp q p)) xs
triple_first xs p = ap (λ f. first_is f xs) (agreeing (λ q. same_triple-is q p))

pub clash_beside : (xs : List Package) (i : ℕ) (p : Package) → IsAscending package_cmp xs → AllLess package_cmp (take i xs) p → IsBelow package_cmp p (drop i xs)
    → clashes xs p ≡ (last_is (λ q. same_triple q p) (take i xs) || first_is (λ q. same_triple q p) (drop i xs))
clash_beside xs i p a before above =
    clash-is xs p ∙ differs_beside body_cmp triple_total package_total triple_begins xs i p a before above
    ∙ (λ k. sym (triple_last (take i xs) p) k || sym (triple_first (drop i xs) p) k)

pub behind_equal : (x p : Package) (xs rest : List Package) → xs ≡ x ∷ rest → IsAscending package_cmp xs → is_eq (package_cmp x p) ≡ true → IsBelow package_cmp p rest
behind_equal x p xs rest e a h = above_equal body_cmp triple_total package_total triple_begins x p rest (subst (IsAscending package_cmp) e a).0 h

-- what stands at the place of a package without an equal is greater
pub above_new : (xs : List Package) (i : ℕ) (p : Package) → IsAscending package_cmp xs → AllLess package_cmp (take i xs) p → StartsAt package_cmp (drop i xs) p → has package_cmp xs p ≡ false → IsBelow package_cmp p (drop i xs)
above_new xs i p a before starts none = by_rest (drop i xs) refl
  where
    by_rest : (rest : List Package) → drop i xs ≡ rest → IsBelow package_cmp p rest
    by_rest [] e = tt
    by_rest (x ∷ rest) e =
        above_other body_cmp triple_total package_total triple_begins x p rest (subst (IsAscending package_cmp) e (ascending_drop package_total i xs a)).0
        (subst (λ (l : List Package). StartsAt package_cmp l p) e starts) (sym (has_at package_total xs i x p rest a before starts e) ∙ none)
