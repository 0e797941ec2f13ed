-- A text within the bound is a name exactly where no byte of it is out of place.
use Rattle.std.proofs.Common.{◌≡◌, ℕ, ◌≤◌, Bool, true, false, not, ◌&&◌, cond, leb, List, length, Some, None, refl, arith}
use Rattle.std.specs.List.{list_all, position}
use Rattle.std.proofs.lemmas.Bool.{le-leb}
use Rattle.ap_text.specs.Names.{is_name_byte, is_name, begins_alphanumeric, bad_place_of_name}
use Rattle.ap_text.proofs.TestLemmas.{all_from_no_position, not_all_from_position}

both_false : (b : Bool) (text : List ℕ) (k : ℕ) → cond b (position (λ c. not (is_name_byte c)) text) (Some 0) ≡ Some k → (b && list_all is_name_byte text) ≡ false
both_false true text k h = not_all_from_position is_name_byte text k h
both_false false text k h = refl

both_true : (b : Bool) (text : List ℕ) → cond b (position (λ c. not (is_name_byte c)) text) (Some 0) ≡ None → (b && list_all is_name_byte text) ≡ true
both_true true text h = all_from_no_position is_name_byte text h
both_true false text h = cc

joined : (a b c : Bool) → (b && c) ≡ false → (a && b && c) ≡ false
joined a b c h = grind arith

joined_true : (a b c : Bool) → a ≡ true → (b && c) ≡ true → (a && b && c) ≡ true
joined_true a b c e h = grind arith

pub no_name_from_bad_place : (text : List ℕ) (k : ℕ) → bad_place_of_name text ≡ Some k → is_name text ≡ false
no_name_from_bad_place text k h =
    joined (leb (length text) 200) (begins_alphanumeric text) (list_all is_name_byte text) (both_false (begins_alphanumeric text) text k h)

pub name_from_no_bad_place : (text : List ℕ) → length text ≤ 200 → bad_place_of_name text ≡ None → is_name text ≡ true
name_from_no_bad_place text short h =
    joined_true (leb (length text) 200) (begins_alphanumeric text) (list_all is_name_byte text) (le-leb (length text) 200 short) (both_true (begins_alphanumeric text) text h)
