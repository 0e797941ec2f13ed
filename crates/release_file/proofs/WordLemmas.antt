-- The words of a text, one after another.
use Rattle.std.proofs.Common.{◌≡◌, ℕ, suc, ◌+◌, ◌-◌, ◌<◌, ◌≤◌, Bool, true, false, not, cond, List, [], ◌∷◌, ◌++◌, length, take, drop, filter, get_or, refl, ap, sym, ◌∙◌, subst, arith}
use Rattle.std.specs.List.{slice_split, onto_first, prefix_len, position_or_len, take_while}
use Rattle.std.specs.Str.{IsCharBoundary}
use Rattle.std.proofs.lemmas.Str.{IsCharBoundary-after_ascii}
use Rattle.std.proofs.lemmas.Bool.Decides.{nat_tests}
use Rattle.std.proofs.lemmas.List.Folds.{length-prefix_len}
use Rattle.std.proofs.lemmas.List.{length-drop}
use Rattle.std.proofs.lemmas.List.Sums.{prefix_len_passes, passes_at_first}
use Rattle.package_core.specs.Source.{is_gap}
use Rattle.package_core.specs.SourceParts.{gaps_before}
use Rattle.release_file.specs.Words.{is_filled, words, starts_gap}

-- where the first word ends
abbrev pub word_end : List ℕ → ℕ
word_end = position_or_len is_gap

-- one more, as it is counted
one_more : (n : ℕ) → suc n ≡ 1 + n
one_more n = omega arith

abbrev parts_behind : List ℕ → List (List ℕ)
parts_behind [] = []
parts_behind (c ∷ cs) = slice_split is_gap cs

first_part : (xs : List ℕ) → slice_split is_gap xs ≡ take (word_end xs) xs ∷ parts_behind (drop (word_end xs) xs)
first_part [] = refl
first_part (x ∷ xs) = by_test (is_gap x) (first_part xs)
  where
    by_test : (b : Bool) → slice_split is_gap xs ≡ take (word_end xs) xs ∷ parts_behind (drop (word_end xs) xs) → cond b ([] ∷ slice_split is_gap xs) (onto_first x (slice_split is_gap xs)) ≡ take (cond (not b) (1 + word_end xs) 0) (x ∷ xs) ∷ parts_behind (drop (cond (not b) (1 + word_end xs) 0) (x ∷ xs))
    by_test true h = refl
    by_test false h = ap (onto_first x) h ∙ ap (λ k. take k (x ∷ xs) ∷ parts_behind (drop k (x ∷ xs))) (one_more (word_end xs))

-- what stands behind a gap
gap_first : (c : ℕ) (cs : List ℕ) → is_gap c ≡ true → words (c ∷ cs) ≡ words cs
unfolding words
gap_first c cs e = ap (λ b. filter is_filled (cond b ([] ∷ slice_split is_gap cs) (onto_first c (slice_split is_gap cs)))) e

words_behind : (xs : List ℕ) → words (drop (word_end xs) xs) ≡ filter is_filled (parts_behind (drop (word_end xs) xs))
unfolding words
words_behind [] = refl
words_behind (x ∷ xs) = by_test (is_gap x) refl (words_behind xs)
  where
    by_test : (b : Bool) → is_gap x ≡ b → words (drop (word_end xs) xs) ≡ filter is_filled (parts_behind (drop (word_end xs) xs)) → words (drop (cond (not b) (1 + word_end xs) 0) (x ∷ xs)) ≡ filter is_filled (parts_behind (drop (cond (not b) (1 + word_end xs) 0) (x ∷ xs)))
    by_test true e h = gap_first x xs e
    by_test false e h = ap (λ k. words (drop k (x ∷ xs))) (sym (one_more (word_end xs))) ∙ h ∙ ap (λ k. filter is_filled (parts_behind (drop k (x ∷ xs)))) (one_more (word_end xs))

-- a text that begins with a word is that word and what stands behind it
pub record FirstWord (xs : List ℕ) : Type 0 where
  pub some : 0 < word_end xs
  pub is : words xs ≡ take (word_end xs) xs ∷ words (drop (word_end xs) xs)

pub first_word : (xs : List ℕ) → starts_gap xs ≡ false → 0 < length xs → FirstWord xs
unfolding words
first_word [] s l = absurd (omega (arith, l))
first_word (x ∷ xs) s l = record {
  some = by_test (is_gap x) s;
  is = ap (filter is_filled) (first_part (x ∷ xs)) ∙ by_word (is_gap x) s ∙ ap (λ ws. take (word_end (x ∷ xs)) (x ∷ xs) ∷ ws) (sym (words_behind (x ∷ xs)));
}
  where
    by_test : (b : Bool) → b ≡ false → 0 < cond (not b) (1 + word_end xs) 0
    by_test true e = cc
    by_test false e = omega arith

    by_word : (b : Bool) → b ≡ false → filter is_filled (take (cond (not b) (1 + word_end xs) 0) (x ∷ xs) ∷ parts_behind (drop (cond (not b) (1 + word_end xs) 0) (x ∷ xs))) ≡ take (cond (not b) (1 + word_end xs) 0) (x ∷ xs) ∷ filter is_filled (parts_behind (drop (cond (not b) (1 + word_end xs) 0) (x ∷ xs)))
    by_word true e = cc
    by_word false e = subst (λ k. filter is_filled (take k (x ∷ xs) ∷ parts_behind (drop k (x ∷ xs))) ≡ take k (x ∷ xs) ∷ filter is_filled (parts_behind (drop k (x ∷ xs)))) (one_more (word_end xs)) refl

-- ---- gaps in front
pub gaps_are : (xs : List ℕ) → gaps_before xs ≡ prefix_len is_gap xs
gaps_are xs = length-prefix_len is_gap xs

skipped : (xs : List ℕ) → words (drop (prefix_len is_gap xs) xs) ≡ words xs
skipped [] = refl
skipped (x ∷ xs) = by_test (is_gap x) refl (skipped xs)
  where
    by_test : (b : Bool) → is_gap x ≡ b → words (drop (prefix_len is_gap xs) xs) ≡ words xs → words (drop (cond b (1 + prefix_len is_gap xs) 0) (x ∷ xs)) ≡ words (x ∷ xs)
    by_test true e h = ap (λ k. words (drop k (x ∷ xs))) (sym (one_more (prefix_len is_gap xs))) ∙ h ∙ sym (gap_first x xs e)
    by_test false e h = refl

no_more : (xs : List ℕ) → starts_gap (drop (prefix_len is_gap xs) xs) ≡ false
no_more [] = refl
no_more (x ∷ xs) = by_test (is_gap x) refl (no_more xs)
  where
    by_test : (b : Bool) → is_gap x ≡ b → starts_gap (drop (prefix_len is_gap xs) xs) ≡ false → starts_gap (drop (cond b (1 + prefix_len is_gap xs) 0) (x ∷ xs)) ≡ false
    by_test true e h = ap (λ k. starts_gap (drop k (x ∷ xs))) (sym (one_more (prefix_len is_gap xs))) ∙ h
    by_test false e h = e

pub behind_gaps : (xs : List ℕ) (n : ℕ) → n ≡ gaps_before xs → (words (drop n xs) ≡ words xs) × (starts_gap (drop n xs) ≡ false)
behind_gaps xs n e =
    let s = e ∙ gaps_are xs in
    (ap (λ k. words (drop k xs)) s ∙ skipped xs, ap (λ k. starts_gap (drop k xs)) s ∙ no_more xs)

pub end_is : (xs : List ℕ) (n : ℕ) → n ≡ length (take_while (λ c. not (is_gap c)) xs) → n ≡ word_end xs
end_is xs n e = e ∙ length-prefix_len (λ c. not (is_gap c)) xs

pub no_words : words [] ≡ []
unfolding words
no_words = refl

-- ---- places where a text can be cut
pub gap_small : (c : ℕ) → is_gap c ≡ true → c < 128
gap_small c h = grind (arith, nat_tests)

pub gap_at_end : (xs : List ℕ) (n : ℕ) → n ≡ word_end xs → n < length xs → get_or xs n 0 < 128
gap_at_end xs n e l = subst (λ k. get_or xs k 0 < 128) (sym e) (gap_small _ (passes_at_first is_gap xs 0 (subst (λ k. k < length xs) e l)))

-- an empty text
pub none_in : (xs : List ℕ) → length xs ≡ 0 → words xs ≡ []
none_in [] e = no_words
none_in (x ∷ xs) e = absurd (omega (arith, e))

-- what is left behind some bytes is shorter
pub shorter : (xs rest : List ℕ) (n : ℕ) → rest ≡ drop n xs → 0 < n → n ≤ length xs → length rest < length xs
shorter xs rest n e s l = omega (arith, ap length e, length-drop n xs)
