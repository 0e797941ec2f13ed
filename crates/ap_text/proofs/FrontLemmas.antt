-- A front of a name is a name.
use Rattle.std.proofs.Common.{◌≡◌, ℕ, zero, suc, ◌<◌, ◌≤◌, true, ◌&&◌, leb, List, [], ◌∷◌, length, take, refl, ◌∙◌, arith}
use Rattle.std.specs.List.{list_all}
use Rattle.std.proofs.lemmas.Bool.{and_parts, and_from, le-leb, leb-true}
use Rattle.ap_text.specs.Names.{is_name_byte, begins_alphanumeric, is_name}

all_of_front : (text : List ℕ) (n : ℕ) → list_all is_name_byte text ≡ true → list_all is_name_byte (take n text) ≡ true
all_of_front text zero h = refl
all_of_front [] (suc n) h = refl
all_of_front (b ∷ bs) (suc n) h =
    let parts = and_parts (is_name_byte b) (list_all is_name_byte bs) h in
    and_from (is_name_byte b) (list_all is_name_byte (take n bs)) parts.0 (all_of_front bs n parts.1)

length_of_front : (text : List ℕ) (n : ℕ) → length (take n text) ≤ length text
length_of_front text zero = omega arith
length_of_front [] (suc n) = omega arith
length_of_front (b ∷ bs) (suc n) = omega (arith, length_of_front bs n)

same_beginning : (text : List ℕ) (n : ℕ) → 0 < n → begins_alphanumeric (take n text) ≡ begins_alphanumeric text
same_beginning text zero h = absurd (omega arith)
same_beginning [] (suc n) h = refl
same_beginning (b ∷ bs) (suc n) h = refl

pub front_is_name : (text : List ℕ) → is_name text ≡ true → (n : ℕ) → 0 < n → is_name (take n text) ≡ true
front_is_name text h n some =
    let outer = and_parts (leb (length text) 200 && begins_alphanumeric text) (list_all is_name_byte text) h in
    let inner = and_parts (leb (length text) 200) (begins_alphanumeric text) outer.0 in
    let short = leb-true (length text) 200 inner.0 in
    and_from (leb (length (take n text)) 200 && begins_alphanumeric (take n text)) (list_all is_name_byte (take n text)) (and_from (leb (length (take n text)) 200) (begins_alphanumeric (take n text)) (le-leb (length (take n text)) 200 (omega (arith, length_of_front text n))) (same_beginning text n some ∙ inner.1)) (all_of_front text n outer.1)
