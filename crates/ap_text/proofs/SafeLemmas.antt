-- A text within the bounds is a safe path exactly where no byte of it is out of place.
use Rattle.std.proofs.Common.{◌≡◌, ℕ, ◌+◌, Bool, true, false, not, ◌&&◌, ◌||◌, cond, ltb, leb, List, [], ◌∷◌, length, Option, Some, None, refl, ap, sym, ◌∙◌, arith}
use Rattle.std.specs.List.{list_all, list_any, position}
use Rattle.std.proofs.Common.{inl, inr}
use Rattle.std.proofs.lemmas.Bool.{cases_Bool, or_cases, le-leb, lt-leb, ltb-true, ltb-false}
use Rattle.ap_text.specs.Paths.{is_path_byte, is_no_entry, is_long_segment, is_segment, is_safe_path, is_too_long, bad_place_in, bad_place_from, bad_place_of_path, at_or_later, segments}
use Rattle.ap_text.proofs.TestLemmas.{all_from_no_position, not_all_from_position}

good_from : (long no_entry : Bool) (s : List ℕ) → long ≡ false → cond no_entry (Some 0) (position (λ b. not (is_path_byte b)) s) ≡ None → (not long && not no_entry && list_all is_path_byte s) ≡ true
good_from false false s l h = all_from_no_position is_path_byte s h
good_from false true s l h = cc
good_from true n s l h = cc

bad_from : (long no_entry : Bool) (s : List ℕ) (k : ℕ) → cond no_entry (Some 0) (position (λ b. not (is_path_byte b)) s) ≡ Some k → (not long && not no_entry && list_all is_path_byte s) ≡ false
bad_from false false s k h = not_all_from_position is_path_byte s k h
bad_from false true s k h = refl
bad_from true n s k h = refl

segment_from_none : (s : List ℕ) → is_long_segment s ≡ false → bad_place_in s ≡ None → is_segment s ≡ true
segment_from_none s l h = good_from (is_long_segment s) (is_no_entry s) s l h

no_segment_from_bad_place : (s : List ℕ) (k : ℕ) → bad_place_in s ≡ Some k → is_segment s ≡ false
no_segment_from_bad_place s k h = bad_from (is_long_segment s) (is_no_entry s) s k h

no_segment_from_long : (s : List ℕ) → is_long_segment s ≡ true → is_segment s ≡ false
no_segment_from_long s l = ap (λ b. not b && not (is_no_entry s) && list_all is_path_byte s) l

and_true : (a b : Bool) → a ≡ true → b ≡ true → (a && b) ≡ true
and_true a b e f = grind arith

and_false_left : (a b : Bool) → a ≡ false → (a && b) ≡ false
and_false_left a b e = grind arith

and_false_right : (a b : Bool) → b ≡ false → (a && b) ≡ false
and_false_right a b e = grind arith

or_first : (a b : Bool) → (a || b) ≡ false → a ≡ false
or_first a b e = grind arith

or_second : (a b : Bool) → (a || b) ≡ false → b ≡ false
or_second a b e = grind arith

first_none : (start : ℕ) (here later : Option ℕ) → at_or_later start here later ≡ None → (here ≡ None) × (later ≡ None)
first_none start None later h = (refl, h)
first_none start (Some k) later h = cc

pub all_segments : (start : ℕ) (ss : List (List ℕ)) → list_any is_long_segment ss ≡ false → bad_place_from start ss ≡ None → list_all is_segment ss ≡ true
all_segments start [] l h = refl
all_segments start (s ∷ ss) l h =
    let none = first_none start (bad_place_in s) (bad_place_from (start + length s + 1) ss) h in
    and_true (is_segment s) (list_all is_segment ss) (segment_from_none s (or_first (is_long_segment s) (list_any is_long_segment ss) l) none.0) (all_segments (start + length s + 1) ss (or_second (is_long_segment s) (list_any is_long_segment ss) l) none.1)

pub not_all_from_long : (ss : List (List ℕ)) → list_any is_long_segment ss ≡ true → list_all is_segment ss ≡ false
not_all_from_long [] l = cc
not_all_from_long (s ∷ ss) l =
    elim (cases_Bool (is_long_segment s)) [ inl e ↦ and_false_left (is_segment s) (list_all is_segment ss) (no_segment_from_long s e) | inr e ↦ and_false_right (is_segment s) (list_all is_segment ss) (not_all_from_long ss (ap (λ b. b || list_any is_long_segment ss) (sym e) ∙ l)) ]

bad_step : (start k : ℕ) (s : List ℕ) (ss : List (List ℕ)) (here : Option ℕ) → here ≡ bad_place_in s → at_or_later start here (bad_place_from (start + length s + 1) ss) ≡ Some k → (bad_place_from (start + length s + 1) ss ≡ Some k → list_all is_segment ss ≡ false) → (is_segment s && list_all is_segment ss) ≡ false
bad_step start k s ss None e h later = and_false_right (is_segment s) (list_all is_segment ss) (later h)
bad_step start k s ss (Some j) e h later = and_false_left (is_segment s) (list_all is_segment ss) (no_segment_from_bad_place s j (sym e))

pub not_all_from_bad_place : (start k : ℕ) (ss : List (List ℕ)) → bad_place_from start ss ≡ Some k → list_all is_segment ss ≡ false
not_all_from_bad_place start k [] h = cc
not_all_from_bad_place start k (s ∷ ss) h =
    bad_step start k s ss (bad_place_in s) refl h (not_all_from_bad_place (start + length s + 1) k ss)

pub safe_from_no_bad_place : (text : List ℕ) → is_too_long text ≡ false → bad_place_of_path text ≡ None → is_safe_path text ≡ true
safe_from_no_bad_place text l h =
    and_true (leb (length text) 1000) (list_all is_segment (segments text)) (le-leb (length text) 1000 (ltb-false 1000 (length text) (or_first _ _ l))) (all_segments 0 (segments text) (or_second _ _ l) h)

pub not_safe_from_bad_place : (text : List ℕ) (k : ℕ) → bad_place_of_path text ≡ Some k → is_safe_path text ≡ false
not_safe_from_bad_place text k h =
    and_false_right (leb (length text) 1000) (list_all is_segment (segments text)) (not_all_from_bad_place 0 k (segments text) h)

pub not_safe_from_too_long : (text : List ℕ) → is_too_long text ≡ true → is_safe_path text ≡ false
not_safe_from_too_long text l =
    elim (or_cases (ltb 1000 (length text)) (list_any is_long_segment (segments text)) l) [
      | inl whole ↦ and_false_left (leb (length text) 1000) (list_all is_segment (segments text)) (lt-leb (length text) 1000 (ltb-true 1000 (length text) whole))
      | inr one ↦ and_false_right (leb (length text) 1000) (list_all is_segment (segments text)) (not_all_from_long (segments text) one)
    ]
