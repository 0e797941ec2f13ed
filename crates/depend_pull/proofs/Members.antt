-- Members of lists: what finds one, and how many pass a test.
use Rattle.std.proofs.Common.{◌≡◌, ◌⊎◌, ◌<◌, ◌≤◌, inl, inr, ℕ, zero, suc, List, [], ◌∷◌, ◌++◌, length, Bool, true, false, ◌||◌, not, cond, Option, Some, None, refl, ap, sym, ◌∙◌, subst, Ordering, Less, Equal, Greater, arith}
use Rattle.std.specs.List.{list_any, filter, find}
use Rattle.std.specs.Cmp.{IsTotalOrder}
use Rattle.std.specs.Ordering.{ordering_reverse}
use Rattle.package_list.specs.Sorted.{IsAscending, IsBelow, put, placed, union}

abbrev pub Member : {X : Type 0} → X → List X → Type 0
Member x [] = ⊥
Member x (y ∷ ys) = (x ≡ y) ⊎ Member x ys

-- each of the one list is a member of the other
abbrev pub Within : {X : Type 0} → List X → List X → Type 0
Within {X} xs ys = (x : X) → Member x xs → Member x ys

module _ {X : Type 0} where
  pub found_member : (f : X → Bool) (xs : List X) (p : X) → find f xs ≡ Some p → Member p xs × (f p ≡ true)
  found_member f [] p h = cc
  found_member f (x ∷ xs) p h = by_test (f x) refl h (found_member f xs p)
    where
      the_one : (a b : X) → Some a ≡ Some b → b ≡ a
      the_one a b e = cc

      by_test : (b : Bool) → f x ≡ b → cond b (Some x) (find f xs) ≡ Some p → (find f xs ≡ Some p → Member p xs × (f p ≡ true)) → Member p (x ∷ xs) × (f p ≡ true)
      by_test true e h more = (inl (the_one x p h), ap f (the_one x p h) ∙ e)
      by_test false e h more = (inr (more h).0, (more h).1)

  pub kept_member : (f : X → Bool) (xs : List X) (p : X) → Member p (filter f xs) → Member p xs × (f p ≡ true)
  kept_member f [] p m = absurd m
  kept_member f (x ∷ xs) p m = by_test (f x) refl m (kept_member f xs p)
    where
      by_test : (b : Bool) → f x ≡ b → Member p (cond b (x ∷ filter f xs) (filter f xs)) → (Member p (filter f xs) → Member p xs × (f p ≡ true)) → Member p (x ∷ xs) × (f p ≡ true)
      by_test true e (inl h) more = (inl h, ap f h ∙ e)
      by_test true e (inr m) more = (inr (more m).0, (more m).1)
      by_test false e m more = (inr (more m).0, (more m).1)

  pub any_member : (f : X → Bool) (xs : List X) (p : X) → Member p xs → f p ≡ true → list_any f xs ≡ true
  any_member f [] p m h = absurd m
  any_member f (x ∷ xs) p (inl e) h = rw (ap f (sym e) ∙ h) refl
  any_member f (x ∷ xs) p (inr m) h = by_test (f x) (any_member f xs p m h)
    where
      by_test : (b : Bool) → list_any f xs ≡ true → (b || list_any f xs) ≡ true
      by_test true e = refl
      by_test false e = e

  -- some member passes a test that any passes
  pub any_found : (f : X → Bool) (xs : List X) → list_any f xs ≡ true → (q : X) × (Member q xs × (f q ≡ true))
  any_found f [] h = cc
  any_found f (x ∷ xs) h = by_test (f x) refl h (any_found f xs)
    where
      by_test : (b : Bool) → f x ≡ b → (b || list_any f xs) ≡ true → (list_any f xs ≡ true → (q : X) × (Member q xs × (f q ≡ true))) → (q : X) × (Member q (x ∷ xs) × (f q ≡ true))
      by_test true e h more = (x, (inl refl, e))
      by_test false e h more = ((more h).0, (inr (more h).1.0, (more h).1.1))

  pub behind_member : (xs : List X) (y p : X) → Member p (xs ++ y ∷ []) → Member p xs ⊎ (p ≡ y)
  behind_member [] y p (inl e) = inr e
  behind_member [] y p (inr m) = absurd m
  behind_member (x ∷ xs) y p (inl e) = inl (inl e)
  behind_member (x ∷ xs) y p (inr m) = by_case (behind_member xs y p m)
    where
      by_case : Member p xs ⊎ (p ≡ y) → Member p (x ∷ xs) ⊎ (p ≡ y)
      by_case (inl m) = inl (inr m)
      by_case (inr e) = inr e

  pub any_behind : (f : X → Bool) (xs : List X) (y : X) → list_any f (xs ++ y ∷ []) ≡ (list_any f xs || f y)
  any_behind f [] y = by_test (f y)
    where
      by_test : (b : Bool) → (b || false) ≡ b
      by_test true = refl
      by_test false = refl
  any_behind f (x ∷ xs) y = ap (λ b. f x || b) (any_behind f xs y) ∙ together (f x) (list_any f xs) (f y)
    where
      together : (a b c : Bool) → (a || (b || c)) ≡ ((a || b) || c)
      together true b c = refl
      together false b c = refl

  -- a test that passes fewer of the list, and one less at a member
  pub fewer : (f g : X → Bool) (xs : List X) → ((x : X) → f x ≡ false → g x ≡ false) → length (filter g xs) ≤ length (filter f xs)
  fewer f g [] less = omega arith
  fewer f g (x ∷ xs) less = by_test (f x) (g x) refl refl (fewer f g xs less)
    where
      by_test : (a b : Bool) → f x ≡ a → g x ≡ b → length (filter g xs) ≤ length (filter f xs) → length (cond b (x ∷ filter g xs) (filter g xs)) ≤ length (cond a (x ∷ filter f xs) (filter f xs))
      by_test true true e h le = omega (le, arith)
      by_test true false e h le = omega (le, arith)
      by_test false true e h le = absurd (differ (sym h ∙ less x e))
        where
          differ : true ≡ false → ⊥
          differ e = cc
      by_test false false e h le = le

  pub one_fewer : (f g : X → Bool) (xs : List X) (p : X) → ((x : X) → f x ≡ false → g x ≡ false) → Member p xs → f p ≡ true → g p ≡ false → length (filter g xs) < length (filter f xs)
  one_fewer f g [] p less m y n = absurd m
  one_fewer f g (x ∷ xs) p less (inl e) y n = rw (ap f (sym e) ∙ y, ap g (sym e) ∙ n) (omega (fewer f g xs less, arith))
  one_fewer f g (x ∷ xs) p less (inr m) y n = by_test (f x) (g x) refl refl (one_fewer f g xs p less m y n)
    where
      by_test : (a b : Bool) → f x ≡ a → g x ≡ b → length (filter g xs) < length (filter f xs) → length (cond b (x ∷ filter g xs) (filter g xs)) < length (cond a (x ∷ filter f xs) (filter f xs))
      by_test true true e h le = omega (le, arith)
      by_test true false e h le = omega (le, arith)
      by_test false true e h le = absurd (differ (sym h ∙ less x e))
        where
          differ : true ≡ false → ⊥
          differ e = cc
      by_test false false e h le = le

  -- no more pass than there are
  pub at_most_all : (f : X → Bool) (xs : List X) → length (filter f xs) ≤ length xs
  at_most_all f [] = omega arith
  at_most_all f (x ∷ xs) = by_test (f x) (at_most_all f xs)
    where
      by_test : (b : Bool) → length (filter f xs) ≤ length xs → length (cond b (x ∷ filter f xs) (filter f xs)) ≤ length (x ∷ xs)
      by_test true le = omega (le, arith)
      by_test false le = omega (le, arith)

-- ---- ascending lists

module _ {X : Type 0} {R : X → X → Ordering} (total : IsTotalOrder R) where
  below_member : (x : X) (xs : List X) (p : X) → IsBelow R x xs → Member p xs → R x p ≡ Less
  below_member x [] p b m = absurd m
  below_member x (y ∷ ys) p b (inl e) = ap (R x) e ∙ b.0
  below_member x (y ∷ ys) p b (inr m) = below_member x ys p b.1 m

  apart : (a : Ordering) → a ≡ Less → a ≡ Equal → ⊥
  apart a h g = cc

  turned_apart : (a b : Ordering) → b ≡ ordering_reverse a → a ≡ Less → b ≡ Equal → ⊥
  turned_apart Less b e h g = cc
  turned_apart Equal b e h g = cc
  turned_apart Greater b e h g = cc

  -- members that are equal in the order are the same
  pub the_same : (xs : List X) (p q : X) → IsAscending R xs → Member p xs → Member q xs → R p q ≡ Equal → p ≡ q
  the_same [] p q a m n h = absurd m
  the_same (x ∷ xs) p q a (inl e) (inl g) h = e ∙ sym g
  the_same (x ∷ xs) p q a (inl e) (inr n) h = absurd (apart (R p q) (ap (λ z. R z q) e ∙ below_member x xs q a.0 n) h)
  the_same (x ∷ xs) p q a (inr m) (inl g) h = absurd (turned_apart (R x p) (R p q) (ap (R p) g ∙ total.antisymm p x) (below_member x xs p a.0 m) h)
  the_same (x ∷ xs) p q a (inr m) (inr n) h = the_same xs p q a.1 m n h

module _ {X : Type 0} (R : X → X → Ordering) where
  put_member : (xs : List X) (y p : X) → Member p (put R xs y) → Member p xs ⊎ (p ≡ y)
  put_member [] y p (inl e) = inr e
  put_member [] y p (inr m) = absurd m
  put_member (x ∷ xs) y p m = by_order (R x y) m (put_member xs y p)
    where
      behind : Member p xs ⊎ (p ≡ y) → Member p (x ∷ xs) ⊎ (p ≡ y)
      behind (inl m) = inl (inr m)
      behind (inr e) = inr e

      by_order : (r : Ordering) → Member p (placed R r x y xs (put R xs y)) → (Member p (put R xs y) → Member p xs ⊎ (p ≡ y)) → Member p (x ∷ xs) ⊎ (p ≡ y)
      by_order Less (inl e) more = inl (inl e)
      by_order Less (inr m) more = behind (more m)
      by_order Equal m more = inl m
      by_order Greater (inl e) more = inr e
      by_order Greater (inr m) more = inl m

  -- what is joined comes from either list
  pub union_member : (xs ys : List X) (p : X) → Member p (union R xs ys) → Member p xs ⊎ Member p ys
  union_member xs [] p m = inl m
  union_member xs (y ∷ ys) p m = by_case (union_member (put R xs y) ys p m)
    where
      by_put : Member p xs ⊎ (p ≡ y) → Member p xs ⊎ Member p (y ∷ ys)
      by_put (inl m) = inl m
      by_put (inr e) = inr (inl e)

      by_case : Member p (put R xs y) ⊎ Member p ys → Member p xs ⊎ Member p (y ∷ ys)
      by_case (inl m) = by_put (put_member xs y p m)
      by_case (inr m) = inr (inr m)
