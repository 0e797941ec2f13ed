-- A list without one member.
use Rattle.std.proofs.Common.{◌≡◌, ℕ, suc, zero, ◌<◌, List, [], ◌∷◌, ◌++◌, length, take, drop, map, Bool, true, false, cond, not, ◌||◌, refl, sym, ap, ◌∙◌, Ordering, Less, Equal, Greater, subst, inl, inr}
use Rattle.std.specs.Ordering.{is_eq, ordering_reverse}
use Rattle.std.specs.List.{filter, remove}
use Rattle.std.specs.Cmp.{IsTotalOrder}
use Rattle.std.proofs.lemmas.Bool.{cases_lt, false≢true, or_parts}
use Rattle.std.proofs.lemmas.List.{take-append-drop, take-map, drop-map, map-append, drop_all}
use Rattle.std.proofs.lemmas.List.Elements.{filter-append}
use Rattle.package_list.specs.Sorted.{IsBelow, IsAscending, AllLess, StartsAt, has}
use Rattle.package_list.proofs.SortedLemmas.{has_at, has_past, ascending_drop}
use Rattle.package_list.proofs.Beside.{tied}

drop_next : {X : Type 0} (i : ℕ) (xs : List X) (x : X) (rest : List X) → drop i xs ≡ x ∷ rest → rest ≡ drop (suc i) xs
drop_next zero [] x rest e = cc
drop_next zero (y ∷ ys) x rest e = tail y x ys rest e
  where
    tail : {X : Type 0} (y x : X) (ys rest : List X) → y ∷ ys ≡ x ∷ rest → rest ≡ ys
    tail y x ys rest e = cc
drop_next (suc i) [] x rest e = cc
drop_next (suc i) (y ∷ ys) x rest e = drop_next i ys x rest e

pub map-remove : {A B : Type 0} (f : A → B) (xs : List A) (i : ℕ) → map f (remove xs i) ≡ remove (map f xs) i
map-remove f xs i = map-append f (take i xs) (drop (suc i) xs) ∙ (λ k. sym (take-map f i xs) k ++ sym (drop-map f (suc i) xs) k)

module _ {X : Type 0} {R : X → X → Ordering} (o : IsTotalOrder R) where
  -- no equal of y
  abbrev pub other : X → X → Bool
  other y x = not (has R (y ∷ []) x)

  keep_less : (xs : List X) (y : X) → AllLess R xs y → filter (other y) xs ≡ xs
  keep_less [] y h = refl
  keep_less (x ∷ xs) y h = rw (o.antisymm y x ∙ ap ordering_reverse h.0) (ap (λ l. x ∷ l) (keep_less xs y h.1))

  keep_below : (xs : List X) (y : X) → IsBelow R y xs → filter (other y) xs ≡ xs
  keep_below [] y h = refl
  keep_below (x ∷ xs) y h = rw h.0 (ap (λ l. x ∷ l) (keep_below xs y h.1))

  -- a list that has no equal of y stays
  pub keep_all : (xs : List X) (y : X) → has R xs y ≡ false → filter (other y) xs ≡ xs
  keep_all [] y h = refl
  keep_all (x ∷ xs) y h =
      let parts = or_parts (is_eq (R x y)) (has R xs y) h in
      kept (R x y) (R y x) (o.antisymm y x) parts.0 (keep_all xs y parts.1)
    where
      kept : (a b : Ordering) → b ≡ ordering_reverse a → is_eq a ≡ false → filter (other y) xs ≡ xs → cond (not (is_eq b || false)) (x ∷ filter (other y) xs) (filter (other y) xs) ≡ x ∷ xs
      kept Less b e h more = rw e (ap (λ l. x ∷ l) more)
      kept Equal b e h more = cc
      kept Greater b e h more = rw e (ap (λ l. x ∷ l) more)

  below_equal : (x y : X) (xs : List X) → R x y ≡ Equal → IsBelow R x xs → IsBelow R y xs
  below_equal x y [] e b = tt
  below_equal x y (z ∷ zs) e b = (sym (o.congr x y z e) ∙ b.0, below_equal x y zs e b.1)

  drops_equal : (x y : X) (xs : List X) → R x y ≡ Equal → filter (other y) (x ∷ xs) ≡ filter (other y) xs
  drops_equal x y xs e = rw (o.antisymm y x ∙ ap ordering_reverse e) refl

  -- the equal of y stands at its place, and goes
  pub removed_at : (xs : List X) (i : ℕ) (y : X) → IsAscending R xs → AllLess R (take i xs) y → StartsAt R (drop i xs) y → has R xs y ≡ true → filter (other y) xs ≡ remove xs i
  removed_at xs i y a before starts h = by_rest (drop i xs) refl
    where
      by_rest : (rest : List X) → drop i xs ≡ rest → filter (other y) xs ≡ remove xs i
      by_rest [] e = absurd (false≢true (sym (has_past o xs i y before e) ∙ h))
      by_rest (x ∷ rest) e =
          let equal : R x y ≡ Equal = tied (R x y) (sym (has_at o xs i x y rest a before starts e) ∙ h) in
          let below : IsBelow R x rest = (subst (IsAscending R) e (ascending_drop o i xs a)).0 in
          ap (filter (other y)) (sym (take-append-drop i xs) ∙ ap (λ l. take i xs ++ l) e) ∙ filter-append (other y) (take i xs) (x ∷ rest)
          ∙ (λ k. keep_less (take i xs) y before k ++ (drops_equal x y rest equal ∙ keep_below rest y (below_equal x y rest equal below)) k)
          ∙ ap (λ l. take i xs ++ l) (drop_next i xs x rest e)

  pub has_inside : (xs : List X) (i : ℕ) (y : X) → AllLess R (take i xs) y → has R xs y ≡ true → i < length xs
  has_inside xs i y before h = elim (cases_lt i (length xs)) [ inl below ↦ below | inr above ↦ absurd (false≢true (sym (has_past o xs i y before (drop_all i xs above)) ∙ h)) ]
