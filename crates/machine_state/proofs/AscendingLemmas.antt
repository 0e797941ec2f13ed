-- Ascending lists: what stands at a place, and one more element at its place.
use Rattle.std.proofs.Common.{◌≡◌, ℕ, zero, suc, ◌+◌, ◌<◌, ◌≤◌, Bool, true, false, cond, List, [], ◌∷◌, length, get_or, map, All, refl, ap, ◌∙◌, arith, Ordering, Less, Equal, Greater}
use Rattle.std.specs.Ordering.{ordering_reverse, ordering_index, is_lt}
use Rattle.std.specs.List.{insert, filter}
use Rattle.std.specs.List.Sorted.{IsNonDecreasingBy}
use Rattle.std.specs.Cmp.{IsTotalOrder}
use Rattle.std.proofs.lemmas.List.Sorted.{searchable_from_sorted}
use Rattle.std.proofs.lemmas.List.Elements.{All-cons, All-head, All-tail}
use Rattle.machine_state.specs.Ascending.{IsBelow, IsAscending, placed, put}

module _ {X : Type 0} {R : X → X → Ordering} (o : IsTotalOrder R) where
  pub turned : (x y : X) (r : Ordering) → R x y ≡ r → R y x ≡ ordering_reverse r
  turned x y r e = o.antisymm y x ∙ ap ordering_reverse e

  pub below_more : (x y : X) (ys : List X) → R x y ≡ Less → IsBelow R y ys → IsBelow R x ys
  below_more x y [] h b = tt
  below_more x y (z ∷ zs) h b = (o.trans x y z h b.0, below_more x y zs h b.1)

  below_put : (x y : X) (ys : List X) → IsBelow R x ys → R x y ≡ Less → IsBelow R x (put R y ys)
  below_put x y [] b h = (h, tt)
  below_put x y (z ∷ zs) b h = by_order (R y z) (below_put x y zs b.1 h)
    where
      by_order : (r : Ordering) → IsBelow R x (put R y zs) → IsBelow R x (placed R r y z zs (put R y zs))
      by_order Less more = (h, b)
      by_order Equal more = b
      by_order Greater more = (b.0, more)

  -- a list with one more is in order
  pub put_ascending : (x : X) (ys : List X) → IsAscending R ys → IsAscending R (put R x ys)
  put_ascending x [] a = (tt, tt)
  put_ascending x (y ∷ ys) a = by_order (R x y) refl (put_ascending x ys a.1)
    where
      by_order : (r : Ordering) → R x y ≡ r → IsAscending R (put R x ys) → IsAscending R (placed R r x y ys (put R x ys))
      by_order Less h more = ((h, below_more x y ys h a.0), a)
      by_order Equal h more = a
      by_order Greater h more = (below_put y x ys a.0 (turned x y Greater h), more)

  pub below_at : (x : X) (ys : List X) (k : ℕ) (d : X) → IsBelow R x ys → k < length ys → R x (get_or ys k d) ≡ Less
  below_at x [] k d b l = absurd (omega arith)
  below_at x (y ∷ ys) zero d b l = b.0
  below_at x (y ∷ ys) (suc k) d b l = below_at x ys k d b.1 (omega arith)

  pub ascending_at : (xs : List X) (i j : ℕ) (d : X) → IsAscending R xs → i < j → j < length xs → R (get_or xs i d) (get_or xs j d) ≡ Less
  ascending_at [] i j d a l m = absurd (omega arith)
  ascending_at (x ∷ xs) i zero d a l m = absurd (omega arith)
  ascending_at (x ∷ xs) zero (suc j) d a l m = below_at x xs j d a.0 (omega arith)
  ascending_at (x ∷ xs) (suc i) (suc j) d a l m = ascending_at xs i j d a.1 (omega arith) (omega arith)

  -- it can be searched by halves
  pub rises : (x : X) (xs : List X) → IsAscending R xs → IsNonDecreasingBy (λ y. ordering_index (R y x)) xs
  rises x xs a = searchable_from_sorted o (λ y. y) xs x (λ k d low high. ap is_lt (turned (get_or xs k d) (get_or xs (k + 1) d) Less (ascending_at xs k (k + 1) d a (omega arith) high)))

  -- one more goes between the less and the greater
  pub put_at : (x : X) (xs : List X) (i : ℕ) → i ≤ length xs
      → ((k : ℕ) (d : X) → k < i → R (get_or xs k d) x ≡ Less)
      → ((k : ℕ) (d : X) → i ≤ k → k < length xs → R (get_or xs k d) x ≡ Greater)
      → put R x xs ≡ insert xs i x
  put_at x [] zero le low high = refl
  put_at x [] (suc i) le low high = absurd (omega (arith, le))
  put_at x (y ∷ ys) zero le low high = rw (turned y x Greater (high 0 x (omega arith) (omega arith))) refl
  put_at x (y ∷ ys) (suc i) le low high =
      rw (turned y x Less (low 0 x (omega arith)))
      (ap (λ l. y ∷ l) (put_at x ys i (omega (arith, le)) (λ k d lt. low (suc k) d (omega (arith, lt))) (λ k d ge lt. high (suc k) d (omega (arith, ge)) (omega (arith, lt)))))

module _ {X : Type 0} (R : X → X → Ordering) where
  -- what holds of all holds of all with one more
  pub all_put : (P : X → Type 0) (x : X) (xs : List X) → P x → All P xs → All P (put R x xs)
  all_put P x [] p all = All-cons P x [] p all
  all_put P x (y ∷ ys) p all = by_order (R x y) (all_put P x ys p (All-tail P y ys all))
    where
      by_order : (r : Ordering) → All P (put R x ys) → All P (placed R r x y ys (put R x ys))
      by_order Less more = All-cons P x (y ∷ ys) p all
      by_order Equal more = all
      by_order Greater more = All-cons P y (put R x ys) (All-head P y ys all) more

  pub length_put : (x : X) (xs : List X) → length (put R x xs) ≤ suc (length xs)
  length_put x [] = omega arith
  length_put x (y ∷ ys) = by_order (R x y) (length_put x ys)
    where
      by_order : (r : Ordering) → length (put R x ys) ≤ suc (length ys) → length (placed R r x y ys (put R x ys)) ≤ suc (suc (length ys))
      by_order Less h = omega arith
      by_order Equal h = omega arith
      by_order Greater h = omega arith

  below_filter : (test : X → Bool) (x : X) (ys : List X) → IsBelow R x ys → IsBelow R x (filter test ys)
  below_filter test x [] b = tt
  below_filter test x (y ∷ ys) b = by_test (test y) (below_filter test x ys b.1)
    where
      by_test : (c : Bool) → IsBelow R x (filter test ys) → IsBelow R x (cond c (y ∷ filter test ys) (filter test ys))
      by_test true more = (b.0, more)
      by_test false more = more

  -- some of a list are in order
  pub filter_ascending : (test : X → Bool) (xs : List X) → IsAscending R xs → IsAscending R (filter test xs)
  filter_ascending test [] a = tt
  filter_ascending test (x ∷ xs) a = by_test (test x) (filter_ascending test xs a.1)
    where
      by_test : (c : Bool) → IsAscending R (filter test xs) → IsAscending R (cond c (x ∷ filter test xs) (filter test xs))
      by_test true more = (below_filter test x xs a.0, more)
      by_test false more = more

  below_map : (change : X → X) → ((x y : X) → R (change x) (change y) ≡ R x y) → (x : X) (ys : List X) → IsBelow R x ys → IsBelow R (change x) (map change ys)
  below_map change same x [] b = tt
  below_map change same x (y ∷ ys) b = (same x y ∙ b.0, below_map change same x ys b.1)

  -- what is changed in ways that matter not to the order stays in order
  pub map_ascending : (change : X → X) → ((x y : X) → R (change x) (change y) ≡ R x y) → (xs : List X) → IsAscending R xs → IsAscending R (map change xs)
  map_ascending change same [] a = tt
  map_ascending change same (x ∷ xs) a = (below_map change same x xs a.0, map_ascending change same xs a.1)
