-- The cuts of a part, from its front.
use Rattle.std.proofs.Common.{◌≡◌, ℕ, suc, ◌+◌, ◌<◌, ◌≤◌, Bool, true, false, cond, List, [], ◌∷◌, length, take, drop, refl, sym, ap, ◌∙◌, arith, Ordering, Less, Equal, Greater, ◌≢◌}
use Rattle.std.specs.List.{prefix_len}
use Rattle.std.specs.Char.{digit_value}
use Rattle.std.specs.Str.Parse.{AllDigits}
use Rattle.std.proofs.lemmas.Bool.Decides.{nat_tests}
use Rattle.std.specs.Ordering.{ordering_then}
use Rattle.deb_version.specs.Cuts.{is_digit, is_non_digit, front, after, first_cut, later, with_front, cuts, padded_cmp, cut_cmp, no_cut, part_cmp}

pub front_is : (p : ℕ → Bool) (xs : List ℕ) → take (prefix_len p xs) xs ≡ front p xs
front_is p [] = refl
front_is p (x ∷ xs) = elim (p x) as (λ b. take (cond b (1 + prefix_len p xs) 0) (x ∷ xs) ≡ cond b (x ∷ front p xs) []) [ true ↦ ap (λ n. take n (x ∷ xs)) (one_more (prefix_len p xs)) ∙ ap (λ l. x ∷ l) (front_is p xs) | false ↦ refl ]
  where
    one_more : (n : ℕ) → 1 + n ≡ suc n
    one_more n = omega arith

pub after_is : (p : ℕ → Bool) (xs : List ℕ) → drop (prefix_len p xs) xs ≡ after p xs
after_is p [] = refl
after_is p (x ∷ xs) = elim (p x) as (λ b. drop (cond b (1 + prefix_len p xs) 0) (x ∷ xs) ≡ cond b (after p xs) (x ∷ xs)) [ true ↦ ap (λ n. drop n (x ∷ xs)) (one_more (prefix_len p xs)) ∙ after_is p xs | false ↦ refl ]
  where
    one_more : (n : ℕ) → 1 + n ≡ suc n
    one_more n = omega arith

digit_first : (c d : ℕ) (ds : List ℕ) → is_digit c ≡ true → (b : Bool) → is_digit d ≡ b → cuts (d ∷ ds) ≡ first_cut (d ∷ ds) ∷ cuts (later (d ∷ ds)) → cuts (c ∷ d ∷ ds) ≡ first_cut (c ∷ d ∷ ds) ∷ cuts (later (c ∷ d ∷ ds))
unfolding first_cut later
digit_first c d ds h true g e = ap (with_front c) e ∙ simp (h, g)
digit_first c d ds h false g e = ap (with_front c) e ∙ simp (h, g, e)

-- by the kind of the first character and of the second
cuts_by : (c : ℕ) (cs : List ℕ) (b : Bool) → is_digit c ≡ b → cuts (c ∷ cs) ≡ first_cut (c ∷ cs) ∷ cuts (later (c ∷ cs))
unfolding first_cut later
cuts_by c [] true h = simp h
cuts_by c [] false h = simp h
cuts_by c (d ∷ ds) false h = simp (h, cuts_by d ds (is_digit d) refl)
cuts_by c (d ∷ ds) true h = digit_first c d ds h (is_digit d) refl (cuts_by d ds (is_digit d) refl)

pub cuts_step : (c : ℕ) (cs : List ℕ) → cuts (c ∷ cs) ≡ first_cut (c ∷ cs) ∷ cuts (later (c ∷ cs))
cuts_step c cs = cuts_by c cs (is_digit c) refl

first_none : Equal ≡ ordering_then (cut_cmp (first_cut []) (first_cut [])) (padded_cmp cut_cmp no_cut (cuts (later [])) (cuts (later [])))
unfolding first_cut later
first_none = refl

none_first : first_cut [] ≡ no_cut
unfolding first_cut
none_first = refl

none_later : cuts (later []) ≡ []
unfolding later
none_later = refl

pub part_cmp_step : (a b : List ℕ) → part_cmp a b ≡ ordering_then (cut_cmp (first_cut a) (first_cut b)) (part_cmp (later a) (later b))
unfolding part_cmp
part_cmp_step [] [] = first_none
part_cmp_step [] (y ∷ ys) = rw (none_first, none_later) (ap (padded_cmp cut_cmp no_cut []) (cuts_step y ys))
part_cmp_step (x ∷ xs) [] = rw (none_first, none_later) (ap (λ l. padded_cmp cut_cmp no_cut l []) (cuts_step x xs))
part_cmp_step (x ∷ xs) (y ∷ ys) = (λ i. padded_cmp cut_cmp no_cut (cuts_step x xs i) (cuts_step y ys i))

after_le : (p : ℕ → Bool) (xs : List ℕ) → length (after p xs) ≤ length xs
after_le p [] = omega arith
after_le p (x ∷ xs) = elim (p x) as (λ b. length (cond b (after p xs) (x ∷ xs)) ≤ suc (length xs)) [ true ↦ omega (arith, after_le p xs) | false ↦ omega arith ]

later_le : (xs : List ℕ) → length (later xs) ≤ length xs
unfolding later
later_le xs = omega (arith, after_le is_digit (after is_non_digit xs), after_le is_non_digit xs)

later_by : (c : ℕ) (cs : List ℕ) (b : Bool) → is_digit c ≡ b → length (later (c ∷ cs)) < suc (length cs)
unfolding later
later_by c cs true h = simp h (omega (arith, after_le is_digit cs))
later_by c cs false h = simp h (omega (arith, later_le cs))

-- what follows the first cuts of two parts is shorter
pub later_shorter : (a b : List ℕ) → (length a ≡ 0 → length b ≡ 0 → ⊥) → length (later a) + length (later b) < length a + length b
later_shorter [] [] h = absurd (h refl refl)
later_shorter (x ∷ xs) b h = omega (arith, later_by x xs (is_digit x) refl, later_le b)
later_shorter [] (y ∷ ys) h = omega (arith, later_by y ys (is_digit y) refl, later_le [])

digit_by : (c : ℕ) → is_digit c ≡ true → digit_value c < 10
unfolding is_digit
digit_by c h = grind (arith, nat_tests)

front_digits_by : (x : ℕ) (xs : List ℕ) (b : Bool) → is_digit x ≡ b → AllDigits 10 (front is_digit xs) → AllDigits 10 (cond b (x ∷ front is_digit xs) [])
front_digits_by x xs true h more = (digit_by x h, more)
front_digits_by x xs false h more = tt

pub front_digits : (xs : List ℕ) → AllDigits 10 (front is_digit xs)
front_digits [] = tt
front_digits (x ∷ xs) = front_digits_by x xs (is_digit x) refl (front_digits xs)

-- nothing is left of either part
pub part_cmp_none : (a b : List ℕ) → length a ≡ 0 → length b ≡ 0 → part_cmp a b ≡ Equal
unfolding part_cmp
part_cmp_none [] [] p q = refl
part_cmp_none (x ∷ xs) b p q = cc
part_cmp_none [] (y ∷ ys) p q = cc

-- the first cuts decide where they differ
pub part_cmp_stops : (a b : List ℕ) (o : Ordering) → o ≡ cut_cmp (first_cut a) (first_cut b) → o ≢ Equal → o ≡ part_cmp a b
part_cmp_stops a b Less e ne = sym (part_cmp_step a b ∙ ap (λ o. ordering_then o (part_cmp (later a) (later b))) (sym e))
part_cmp_stops a b Equal e ne = absurd (ne refl)
part_cmp_stops a b Greater e ne = sym (part_cmp_step a b ∙ ap (λ o. ordering_then o (part_cmp (later a) (later b))) (sym e))

-- where they don't, the rest does
pub part_cmp_goes_on : (a b : List ℕ) (o : Ordering) → o ≡ cut_cmp (first_cut a) (first_cut b) → o ≡ Equal → part_cmp (later a) (later b) ≡ part_cmp a b
part_cmp_goes_on a b o e h = sym (part_cmp_step a b ∙ ap (λ o. ordering_then o (part_cmp (later a) (later b))) (sym e ∙ h))
