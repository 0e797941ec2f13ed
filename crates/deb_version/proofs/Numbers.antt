-- Digits as numbers.
use Rattle.std.proofs.Common.{◌≡◌, ◌≢◌, lit<, ℕ, suc, ◌+◌, ◌*◌, ◌^◌, ◌<◌, ◌≤◌, List, [], ◌∷◌, length, get_or, refl, sym, ap, ◌∙◌, arith, inl, inr, Ordering, Less, Equal, Greater}
use Rattle.std.specs.Ordering.{ordering_then, nat_cmp}
use Rattle.std.specs.Cmp.Lexicographic.{slice_cmp}
use Rattle.std.specs.Char.{digit_value}
use Rattle.std.specs.Str.Parse.{digits_value, digits_value_after, AllDigits}
use Rattle.std.proofs.lemmas.Bool.Decides.{nat_tests}
use Rattle.std.proofs.Math.Nat.{pow-suc, pow-le-pow_right}
use Rattle.std.proofs.lemmas.Bool.{cases_lt}
use Rattle.std.proofs.lemmas.Int.Digits.{digits_value-lt}

then_assoc : (a b c : Ordering) → ordering_then (ordering_then a b) c ≡ ordering_then a (ordering_then b c)
then_assoc Less b c = refl
then_assoc Equal b c = refl
then_assoc Greater b c = refl

-- one more digit on both sides
one_digit : (m n x y d e : ℕ) → (x ≡ 48 + d) → (y ≡ 48 + e) → d < 10 → e < 10 → nat_cmp (m * 10 + d) (n * 10 + e) ≡ ordering_then (nat_cmp m n) (nat_cmp x y)
one_digit m n x y d e p q f g = grind (arith, nat_tests)

digit_is : (c : ℕ) → digit_value c < 10 → c ≡ 48 + digit_value c
digit_is c h = grind (arith, nat_tests)

-- numbers of equal length compare as their digits do
pub same_length : (xs ys : List ℕ) (m n : ℕ) → length xs ≡ length ys → AllDigits 10 xs → AllDigits 10 ys → nat_cmp (digits_value_after 10 m xs) (digits_value_after 10 n ys) ≡ ordering_then (nat_cmp m n) (slice_cmp nat_cmp xs ys)
same_length [] [] m n e p q = grind (arith, nat_tests)
same_length [] (y ∷ ys) m n e p q = cc
same_length (x ∷ xs) [] m n e p q = cc
same_length (x ∷ xs) (y ∷ ys) m n e p q = same_length xs ys _ _ (omega arith) p.1 q.1 ∙ ap (λ o. ordering_then o (slice_cmp nat_cmp xs ys)) (one_digit m n x y _ _ (digit_is x p.0) (digit_is y q.0) p.0 q.0) ∙ then_assoc (nat_cmp m n) (nat_cmp x y) _

shifted : (n v p w : ℕ) → (n * 10 + v) * p ≤ w → n * (p * 10) ≤ w
shifted n v p w h = omega arith

-- a number is at least its front, shifted
at_least : (n : ℕ) (ds : List ℕ) → n * 10 ^ length ds ≤ digits_value_after 10 n ds
at_least n [] = omega arith
at_least n (d ∷ ds) = rw pow-suc (shifted n (digit_value d) (10 ^ length ds) _ (at_least (n * 10 + digit_value d) ds))

-- a number that begins with a digit above 0 is at least the power of ten for its other digits
large : (d : ℕ) (ds : List ℕ) → d ≢ 48 → digit_value d < 10 → 10 ^ length ds ≤ digits_value 10 (d ∷ ds)
large d ds ne lt = above _ _ _ (at_least (0 * 10 + digit_value d) ds) (positive d ne lt)
  where
    positive : (d : ℕ) → d ≢ 48 → digit_value d < 10 → 0 < 0 * 10 + digit_value d
    positive d ne lt = omega (arith, digit_is d lt)

    above : (n p w : ℕ) → n * p ≤ w → 0 < n → p ≤ w
    above n p w h g = grind arith

-- of two numbers without zeros in front the shorter one is less
pub shorter_less : (xs : List ℕ) (y : ℕ) (ys : List ℕ) → y ≢ 48 → AllDigits 10 xs → AllDigits 10 (y ∷ ys) → length xs ≤ length ys → nat_cmp (digits_value 10 xs) (digits_value 10 (y ∷ ys)) ≡ Less
shorter_less xs y ys ne p q short = less (digits_value 10 xs) (digits_value 10 (y ∷ ys)) (omega (arith, digits_value-lt 10 xs p, large y ys ne q.0, power (length xs) (length ys) short))
  where
    power : (i j : ℕ) → i ≤ j → 10 ^ i ≤ 10 ^ j
    power i j h = pow-le-pow_right (lit< tt) h

    less : (a b : ℕ) → a < b → nat_cmp a b ≡ Less
    less a b h = grind (arith, nat_tests)

-- numbers of the same length
pub numbers_same : (xs ys : List ℕ) → AllDigits 10 xs → AllDigits 10 ys → length xs ≡ length ys → slice_cmp nat_cmp xs ys ≡ nat_cmp (digits_value 10 xs) (digits_value 10 ys)
numbers_same xs ys p q e = sym (same_length xs ys 0 0 e p q)

flipped : (a b : ℕ) → nat_cmp a b ≡ Less → nat_cmp b a ≡ Greater
flipped a b h = grind (arith, nat_tests)

shorter : (a b : ℕ) → a < b → nat_cmp a b ≡ Less
shorter a b h = grind (arith, nat_tests)

longer : (a b : ℕ) → b < a → nat_cmp a b ≡ Greater
longer a b h = grind (arith, nat_tests)

-- without zeros in front, the lengths decide where they differ
pub numbers_other : (xs ys : List ℕ) → AllDigits 10 xs → AllDigits 10 ys → get_or xs 0 0 ≢ 48 → get_or ys 0 0 ≢ 48 → length xs ≢ length ys → nat_cmp (length xs) (length ys) ≡ nat_cmp (digits_value 10 xs) (digits_value 10 ys)
numbers_other [] [] p q f g ne = absurd (ne refl)
numbers_other [] (y ∷ ys) p q f g ne = shorter 0 (suc (length ys)) (omega arith) ∙ sym (shorter_less [] y ys g p q (omega arith))
numbers_other (x ∷ xs) [] p q f g ne = longer (suc (length xs)) 0 (omega arith) ∙ sym (flipped (digits_value 10 []) (digits_value 10 (x ∷ xs)) (shorter_less [] x xs f q p (omega arith)))
numbers_other (x ∷ xs) (y ∷ ys) p q f g ne =
    elim (cases_lt (length xs) (length ys)) [ inl h ↦ shorter (suc (length xs)) (suc (length ys)) (omega arith) ∙ sym (shorter_less (x ∷ xs) y ys g p q (omega arith)) | inr h ↦ longer (suc (length xs)) (suc (length ys)) (omega arith) ∙ sym (flipped (digits_value 10 (y ∷ ys)) (digits_value 10 (x ∷ xs)) (shorter_less (y ∷ ys) x xs f q p (omega arith))) ]
