-- A list passes a test at each element exactly where no first element fails it.
use Rattle.std.proofs.Common.{◌≡◌, ℕ, ◌<◌, ◌≤◌, Bool, true, false, not, cond, List, [], ◌∷◌, length, Some, None, refl, arith}
use Rattle.std.specs.List.{list_all, position, position_or_len}
use Rattle.std.proofs.lemmas.Bool.Decides.{nat_tests}

step_true : (x y z : Bool) → x ≡ true → cond (not (not x)) y z ≡ y
step_true x y z e = grind arith

pub all_from_none : {X : Type 0} (q : X → Bool) (xs : List X) → length xs ≤ position_or_len (λ x. not (q x)) xs → list_all q xs ≡ true
all_from_none q [] h = refl
all_from_none q (x ∷ xs) h = grind (arith, all_from_none q xs)

pub not_all_from_some : {X : Type 0} (q : X → Bool) (xs : List X) → position_or_len (λ x. not (q x)) xs < length xs → list_all q xs ≡ false
not_all_from_some q [] h = absurd (omega arith)
not_all_from_some q (x ∷ xs) h = grind (arith, not_all_from_some q xs)

pub all_from_no_position : {X : Type 0} (q : X → Bool) (xs : List X) → position (λ x. not (q x)) xs ≡ None → list_all q xs ≡ true
all_from_no_position q xs h = grind (arith, nat_tests, all_from_none q xs)

pub not_all_from_position : {X : Type 0} (q : X → Bool) (xs : List X) (k : ℕ) → position (λ x. not (q x)) xs ≡ Some k → list_all q xs ≡ false
not_all_from_position q xs k h = grind (arith, nat_tests, not_all_from_some q xs)
