-- Lists in the order of a key, such as a name, and what is found in them by it.
use Rattle.std.proofs.Common.{◌≡◌, ℕ, ◌+◌, ◌<◌, ◌≤◌, Bool, List, [], ◌∷◌, length, get_or, Option, Some, None, true, false, inl, inr, refl, sym, ap, ◌∙◌, arith, Ordering, Less, Equal, Greater}
use Rattle.std.specs.Prelude.{find}
use Rattle.std.specs.Ordering.{is_eq, is_lt, ordering_index}
use Rattle.std.specs.List.Sorted.{IsNonDecreasingBy}
use Rattle.std.specs.Cmp.{IsTotalOrder}
use Rattle.std.proofs.lemmas.Bool.{cases_lt}
use Rattle.std.proofs.lemmas.Cmp.{on_total, alike_right}
use Rattle.std.proofs.lemmas.List.Sorted.{searchable_from_sorted}
use Rattle.std.proofs.lemmas.List.Recursion.{found_at, found_nowhere}
use Rattle.machine_state.specs.Ascending.{IsAscending}
use Rattle.machine_state.proofs.AscendingLemmas.{ascending_at, turned}

-- the elements have keys, whose order tells which are the same
module _ {X K : Type 0} (key_of : X → K) {C : K → K → Ordering} (o : IsTotalOrder C) (same : K → K → Bool) (agrees : (a b : K) → is_eq (C a b) ≡ same a b) where
  abbrev pub by_key : X → X → Ordering
  by_key x y = C (key_of x) (key_of y)

  abbrev pub of_key : K → List X → Option X
  of_key k xs = find (λ x. same (key_of x) k) xs

  pub by_key_total : IsTotalOrder by_key
  by_key_total = on_total key_of o

  differs : (x : X) (k : K) (r : Ordering) → C (key_of x) k ≡ r → is_eq r ≡ false → same (key_of x) k ≡ false
  differs x k r e apart = sym (agrees (key_of x) k) ∙ ap is_eq e ∙ apart

  is_same : (x : X) (k : K) → C (key_of x) k ≡ Equal → same (key_of x) k ≡ true
  is_same x k e = sym (agrees (key_of x) k) ∙ ap is_eq e

  -- what stands where the key was found is that of the key
  pub found : (xs : List X) (i : ℕ) (d : X) (k : K) → IsAscending by_key xs → i < length xs → C (key_of (get_or xs i d)) k ≡ Equal → of_key k xs ≡ Some (get_or xs i d)
  found xs i d k a l e =
      found_at (of_key k) (λ x. same (key_of x) k) Some None refl (λ x ys. refl) xs i d l
      (λ j lt. differs (get_or xs j d) k Less (less j lt) refl)
      (is_same (get_or xs i d) k e)
    where
      along : (x y : X) → by_key x y ≡ Less → C (key_of y) k ≡ Equal → C (key_of x) k ≡ Less
      along x y h g = sym (alike_right o (key_of y) k (key_of x) g) ∙ h

      less : (j : ℕ) → j < i → C (key_of (get_or xs j d)) k ≡ Less
      less j lt = along (get_or xs j d) (get_or xs i d) (ascending_at by_key_total xs j i d a lt l) e

  -- where each is less or greater, none has the key
  pub nowhere : (xs : List X) (i : ℕ) (k : K)
      → ((j : ℕ) (d : X) → j < i → C (key_of (get_or xs j d)) k ≡ Less)
      → ((j : ℕ) (d : X) → i ≤ j → j < length xs → C (key_of (get_or xs j d)) k ≡ Greater)
      → of_key k xs ≡ None
  nowhere [] i k low high = refl
  nowhere (x ∷ xs) i k low high = found_nowhere (of_key k) (λ y. same (key_of y) k) Some None refl (λ y ys. refl) (x ∷ xs) x each
    where
      each : (j : ℕ) → j < length (x ∷ xs) → same (key_of (get_or (x ∷ xs) j x)) k ≡ false
      each j lt = elim (cases_lt j i) [ inl below ↦ differs (get_or (x ∷ xs) j x) k Less (low j x below) refl | inr above ↦ differs (get_or (x ∷ xs) j x) k Greater (high j x above lt) refl ]

  -- it can be searched by halves
  pub rises_by_key : (xs : List X) (k : K) → IsAscending by_key xs → IsNonDecreasingBy (λ x. ordering_index (C (key_of x) k)) xs
  rises_by_key xs k a = searchable_from_sorted o key_of xs k (λ j d low high. ap is_lt (turned by_key_total (get_or xs j d) (get_or xs (j + 1) d) Less (ascending_at by_key_total xs j (j + 1) d a (omega arith) high)))
