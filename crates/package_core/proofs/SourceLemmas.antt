-- The parts of a source.
use Rattle.std.proofs.Common.{◌≡◌, ℕ, ◌-◌, ◌<◌, Bool, true, false, ◌==◌, cond, List, [], ◌∷◌, ◌++◌, length, take, reverse, get_or, Option, Some, None, refl, ap, sym, ◌∙◌, arith}
use Rattle.std.specs.List.{prefix_len, position_or_len, before_first, after_first}
use Rattle.std.specs.Option.{MatchOption, option_copied, option_map}
use Rattle.std.proofs.lemmas.Bool.{cond_above, cond_below}
use Rattle.std.proofs.lemmas.Bool.Decides.{nat_tests}
use Rattle.std.proofs.lemmas.List.{get_or-reverse, length-reverse}
use Rattle.std.proofs.lemmas.List.Folds.{length-prefix_len}
use Rattle.std.proofs.lemmas.List.Sums.{prefix_len_passes, prefix_len-le-length}
use Rattle.std.proofs.lemmas.Str.Pattern.{IsSplitOnceResult, split_once_first}
use denote.Ref.{Bor}
use Rattle.package_core.specs.Source.{is_gap}
use Rattle.package_core.specs.SourceParts.{is_opening, gaps_before, gaps_behind, before_closing, named, parts_at, source_parts}

gap_small : (c : ℕ) → is_gap c ≡ true → c < 128
gap_small c h = grind (arith, nat_tests)

pub last_gap : (text : List ℕ) (n : ℕ) → n ≡ gaps_before text → 0 < n → get_or text (n - 1) 0 < 128
last_gap text n e some =
    let l : length (take (prefix_len is_gap text) text) ≡ prefix_len is_gap text = length-prefix_len is_gap text in
    gap_small _ (prefix_len_passes is_gap text (n - 1) 0 (omega arith))

pub first_gap : (text : List ℕ) (n : ℕ) → n ≡ gaps_behind text → 0 < n → get_or text (length text - n) 0 < 128
first_gap text n e some =
    let l : length (take (prefix_len is_gap (reverse text)) (reverse text)) ≡ prefix_len is_gap (reverse text) = length-prefix_len is_gap (reverse text) in
    let most = prefix_len-le-length is_gap (reverse text) in
    let long = length-reverse text in
    let at : get_or (reverse text) (n - 1) 0 ≡ get_or text (length text - 1 - (n - 1)) 0 = get_or-reverse text (n - 1) 0 (omega arith) in
    let place : length text - 1 - (n - 1) ≡ length text - n = omega arith in
    let small : get_or (reverse text) (n - 1) 0 < 128 = gap_small _ (prefix_len_passes is_gap (reverse text) (n - 1) 0 (omega arith)) in
    rw (← place) (rw (← at) small)

pub closing_found : (front : List ℕ) → before_closing (front ++ 41 ∷ []) ≡ Some front
closing_found [] = refl
closing_found (c ∷ []) = refl
closing_found (c ∷ d ∷ ds) = ap (option_map (λ (f : List ℕ). c ∷ f)) (closing_found (d ∷ ds))

only_one : (b : Bool) (c : ℕ) (front : List ℕ) → (b ≡ true → c ≡ 41) → cond b (Some []) None ≡ Some front → c ∷ [] ≡ front ++ 41 ∷ []
only_one true c [] h e = ap (λ n. n ∷ []) (h refl)
only_one true c (d ∷ ds) h e = cc
only_one false c front h e = cc

is_closing : (c : ℕ) → (c == 41) ≡ true → c ≡ 41
is_closing c h = grind (arith, nat_tests)

only_more : (c : ℕ) (rest : List ℕ) (o : Option (List ℕ)) (front : List ℕ) → ((f : List ℕ) → o ≡ Some f → rest ≡ f ++ 41 ∷ []) → option_map (λ (f : List ℕ). c ∷ f) o ≡ Some front → c ∷ rest ≡ front ++ 41 ∷ []
only_more c rest None front h e = cc
only_more c rest (Some f) [] h e = cc
only_more c rest (Some f) (d ∷ ds) h e =
    let at : rest ≡ f ++ 41 ∷ [] = h f refl in
    let same : c ∷ f ≡ d ∷ ds = cc in
    ap (λ (l : List ℕ). c ∷ l) at ∙ ap (λ (l : List ℕ). l ++ 41 ∷ []) same

pub closing_only : (text front : List ℕ) → before_closing text ≡ Some front → text ≡ front ++ 41 ∷ []
closing_only [] front e = cc
closing_only (c ∷ []) front e = only_one (c == 41) c front (is_closing c) e
closing_only (c ∷ d ∷ ds) front e = only_more c (d ∷ ds) (before_closing (d ∷ ds)) front (closing_only (d ∷ ds)) e

none_where : (o : Option (List ℕ)) → ((front : List ℕ) → o ≡ Some front → ⊥) → None ≡ o
none_where None h = refl
none_where (Some front) h = absurd (h front refl)

pub closing_stripped : (text : List ℕ) (r : Option (Bor (List ℕ))) → MatchOption r ((front : List ℕ) → text ≡ front ++ 41 ∷ [] → ⊥) (λ x. text ≡ x.now ++ 41 ∷ []) → option_copied r ≡ before_closing text
closing_stripped text None h = none_where (before_closing text) (λ front e. h front (closing_only text front e))
closing_stripped text (Some x) h = sym (ap before_closing h ∙ closing_found x.now)

split_at : (text : List ℕ) (r : Option (Bor (List ℕ) × Bor (List ℕ))) → MatchOption r (position_or_len is_opening text ≡ length text) (λ x. (position_or_len is_opening text < length text) × (x.0.now ≡ before_first is_opening text) × (x.1.now ≡ after_first is_opening text)) → MatchOption r (source_parts text ≡ Some (text, None)) (λ x. source_parts text ≡ named x.0.now (before_closing x.1.now))
unfolding source_parts
split_at text None e = ap (parts_at text) (sym (cond_above (position_or_len is_opening text) (length text) _ None None (omega arith) refl))
split_at text (Some x) (lt, front, behind) =
    ap (parts_at text) (sym (cond_below (position_or_len is_opening text) (length text) _ _ lt)) ∙ sym (λ i. named (front i) (before_closing (behind i)))

-- the parts of a text that is split at its first parenthesis
pub parts_split : (text : List ℕ) (r : Option (Bor (List ℕ) × Bor (List ℕ))) → IsSplitOnceResult 40 text r → MatchOption r (source_parts text ≡ Some (text, None)) (λ x. source_parts text ≡ named x.0.now (before_closing x.1.now))
parts_split text r h = split_at text r (split_once_first 40 text r h (omega arith))
