-- A list whose elements are changed in place, one after the other.
use Rattle.std.proofs.Common.{◌≡◌, ℕ, zero, suc, ◌+◌, ◌<◌, ◌≤◌, List, [], ◌∷◌, length, get_or, map, refl, ap, ◌∙◌, arith}
use Rattle.std.specs.List.{slice_set}

module _ {X : Type 0} (change : X → X) where
  -- so many of them are changed
  abbrev pub front_map : ℕ → List X → List X
  front_map zero xs = xs
  front_map (suc n) [] = []
  front_map (suc n) (x ∷ xs) = change x ∷ front_map n xs

  front_over : (n : ℕ) (xs : List X) → length xs ≤ n → front_map n xs ≡ map change xs
  front_over zero [] l = refl
  front_over zero (x ∷ xs) l = absurd (omega (arith, l))
  front_over (suc n) [] l = refl
  front_over (suc n) (x ∷ xs) l = ap (λ (l : List X). change x ∷ l) (front_over n xs (omega (arith, l)))

  front_more : (n : ℕ) (xs : List X) (d : X) → n < length xs → slice_set (front_map n xs) n (change (get_or (front_map n xs) n d)) ≡ front_map (suc n) xs
  front_more n [] d l = absurd (omega arith)
  front_more zero (x ∷ xs) d l = refl
  front_more (suc n) (x ∷ xs) d l = ap (λ (l : List X). change x ∷ l) (front_more n xs d (omega arith))

  -- one more is changed
  pub one_more : (n : ℕ) (xs ys : List X) (x y : X) → ys ≡ front_map n xs → n < length xs → y ≡ change (get_or ys n x) → slice_set ys n y ≡ front_map (n + 1) xs
  one_more n xs ys x y e l made =
      let now : y ≡ change (get_or (front_map n xs) n x) = made ∙ ap (λ (l : List X). change (get_or l n x)) e in
      let next : suc n ≡ n + 1 = omega arith in
      ap (λ (l : List X). slice_set l n y) e ∙ ap (slice_set (front_map n xs) n) now ∙ front_more n xs x l ∙ ap (λ (k : ℕ). front_map k xs) next

  -- all are
  pub all_changed : (n : ℕ) (xs ys : List X) → ys ≡ front_map n xs → length xs ≤ n → ys ≡ map change xs
  all_changed n xs ys e l = e ∙ front_over n xs l
