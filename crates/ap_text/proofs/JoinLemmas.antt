-- Which paths are safe: names, decimal numbers, and what is joined of safe paths behind a slash.
use Rattle.std.proofs.Common.{◌≡◌, ℕ, ◌<◌, ◌≤◌, ◌+◌, ◌/◌, ◌%◌, ◌^◌, Bool, true, false, not, ◌&&◌, ◌||◌, ◌==◌, cond, eqb, leb, List, [], ◌∷◌, ◌++◌, length, get_or, refl, ap, ◌∙◌, arith, lit<, nat_eq, length-append}
use Rattle.std.specs.List.{list_all, onto_first, All, starts_with}
use Rattle.std.specs.Fmt.{decimal}
use Rattle.std.specs.Str.{bytes_eq}
use Rattle.std.proofs.lemmas.Bool.{and_parts, and_from, le-leb, leb-true, eq-eqb, ne_eqb, le-ltb}
use Rattle.std.proofs.lemmas.Bool.Decides.{nat_tests}
use Rattle.std.proofs.lemmas.List.{get_or_at, get_or_append_left}
use Rattle.std.proofs.lemmas.List.Folds.{list_all-append}
use Rattle.std.proofs.lemmas.List.Elements.{All-cons, All-nil}
use Rattle.std.proofs.lemmas.List.Splits.{slice_split_none, length-slice_split}
use Rattle.std.proofs.lemmas.Fmt.{decimal_by_steps, length-decimal-le}
use Rattle.ap_text.specs.Names.{is_alphanumeric, is_name_byte, begins_alphanumeric, is_name}
use Rattle.ap_text.specs.Paths.{segments, is_path_byte, is_no_entry, is_long_segment, is_segment, is_safe_path, below_folder, numbered, is_below}

-- the segments of a joined path are those of its parts

join_step : (test : Bool) (b : ℕ) (ss more : List (List ℕ)) → 0 < length ss → cond test ([] ∷ (ss ++ more)) (onto_first b (ss ++ more)) ≡ cond test ([] ∷ ss) (onto_first b ss) ++ more
join_step test b [] more some = absurd (omega arith)
join_step true b (s ∷ ss) more some = refl
join_step false b (s ∷ ss) more some = refl

some_segment : (text : List ℕ) → 0 < length (segments text)
some_segment text = omega (arith, length-slice_split (λ b. b == 47) text)

pub segments_joined : (folder rest : List ℕ) → segments (below_folder folder rest) ≡ segments folder ++ segments rest
segments_joined [] rest = refl
segments_joined (b ∷ folder) rest =
    ap (λ (ss : List (List ℕ)). cond (b == 47) ([] ∷ ss) (onto_first b ss)) (segments_joined folder rest)
    ∙ join_step (b == 47) b (segments folder) (segments rest) (some_segment folder)

segments_safe : (text : List ℕ) → is_safe_path text ≡ true → list_all is_segment (segments text) ≡ true
segments_safe text h = (and_parts (leb (length text) 1000) (list_all is_segment (segments text)) h).1

pub safe_joined : (folder rest : List ℕ) → is_safe_path folder ≡ true → is_safe_path rest ≡ true → length (below_folder folder rest) ≤ 1000 → is_safe_path (below_folder folder rest) ≡ true
safe_joined folder rest f r short =
    let all = list_all-append is_segment (segments folder) (segments rest) in
    let both = and_from (list_all is_segment (segments folder)) (list_all is_segment (segments rest)) (segments_safe folder f) (segments_safe rest r) in
    and_from (leb (length (below_folder folder rest)) 1000) (list_all is_segment (segments (below_folder folder rest))) (le-leb (length (below_folder folder rest)) 1000 short) (ap (list_all is_segment) (segments_joined folder rest) ∙ all ∙ both)

front_of : (folder rest : List ℕ) → starts_with nat_eq (folder ++ rest) folder ≡ true
front_of [] rest = refl
front_of (b ∷ bs) rest = and_from _ _ (eq-eqb b b refl) (front_of bs rest)

pub below_joined : (folder rest : List ℕ) → is_below folder (below_folder folder rest) ≡ true
below_joined folder rest =
    and_from _ _ (front_of folder (47 ∷ rest)) (eq-eqb _ 47 (get_or_at folder 47 rest 0 (length folder) refl))

-- a name is one segment

range_of : (b : ℕ) → is_name_byte b ≡ true → (43 ≤ b) × (b ≤ 122) × (b ≡ 47 → ⊥)
range_of b h = (grind (arith, nat_tests), grind (arith, nat_tests), grind (arith, nat_tests))

path_bytes : (text : List ℕ) → list_all is_name_byte text ≡ true → list_all is_path_byte text ≡ true
path_bytes [] h = refl
path_bytes (b ∷ bs) h =
    let parts = and_parts (is_name_byte b) (list_all is_name_byte bs) h in
    let range = range_of b parts.0 in
    and_from (is_path_byte b) (list_all is_path_byte bs) (and_from (leb 33 b) (leb b 126) (le-leb 33 b (omega arith)) (le-leb b 126 (omega arith))) (path_bytes bs parts.1)

no_slash_in : (text : List ℕ) → list_all is_name_byte text ≡ true → All (λ b. (b == 47) ≡ false) text
no_slash_in [] h = All-nil (λ b. (b == 47) ≡ false)
no_slash_in (b ∷ bs) h =
    let parts = and_parts (is_name_byte b) (list_all is_name_byte bs) h in
    All-cons (λ c. (c == 47) ≡ false) b bs (ne_eqb b 47 (range_of b parts.0).2) (no_slash_in bs parts.1)

alphanumeric_not_dot : (b : ℕ) → is_alphanumeric b ≡ true → eqb b 46 ≡ false
alphanumeric_not_dot b h = grind (arith, nat_tests)

entry_from_first : (text : List ℕ) → begins_alphanumeric text ≡ true → is_no_entry text ≡ false
entry_from_first [] h = cc
entry_from_first (b ∷ []) h = ap (λ dot. dot && true || dot && false) (alphanumeric_not_dot b h)
entry_from_first (b ∷ c ∷ bs) h =
    ap (λ dot. dot && false || dot && (eqb c 46 && bytes_eq bs [])) (alphanumeric_not_dot b h)

name_parts : (text : List ℕ) → is_name text ≡ true → (length text ≤ 200) × (begins_alphanumeric text ≡ true) × (list_all is_name_byte text ≡ true)
name_parts text h =
    let front = and_parts (leb (length text) 200 && begins_alphanumeric text) (list_all is_name_byte text) h in
    let two = and_parts (leb (length text) 200) (begins_alphanumeric text) front.0 in
    (leb-true (length text) 200 two.0, two.1, front.1)

pub segments_name : (text : List ℕ) → is_name text ≡ true → segments text ≡ text ∷ []
segments_name text h = slice_split_none (λ b. b == 47) text (no_slash_in text (name_parts text h).2)

name_is_segment : (text : List ℕ) → is_name text ≡ true → is_segment text ≡ true
name_is_segment text h =
    let parts = name_parts text h in
    and_from (not (is_long_segment text) && not (is_no_entry text)) (list_all is_path_byte text) (and_from (not (is_long_segment text)) (not (is_no_entry text)) (ap not (le-ltb 255 (length text) (omega arith))) (ap not (entry_from_first text parts.1))) (path_bytes text parts.2)

pub safe_name : (text : List ℕ) → is_name text ≡ true → is_safe_path text ≡ true
safe_name text h =
    let parts = name_parts text h in
    and_from (leb (length text) 1000) (list_all is_segment (segments text)) (le-leb (length text) 1000 (omega arith)) (ap (list_all is_segment) (segments_name text h) ∙ and_from (is_segment text) true (name_is_segment text h) refl)

-- a decimal number is a name

pub record IsDigitsText (n : ℕ) (text : List ℕ) : Type 0 where
  pub some : 0 < length text
  pub first : is_alphanumeric (get_or text 0 0) ≡ true
  pub all : list_all is_name_byte text ≡ true

digit_alphanumeric : (d : ℕ) → d < 10 → is_alphanumeric (48 + d) ≡ true
digit_alphanumeric d h = grind (arith, nat_tests)

digit_name_byte : (d : ℕ) → d < 10 → is_name_byte (48 + d) ≡ true
digit_name_byte d h = ap (λ b. b || (48 + d) == 43 || (48 + d) == 45 || (48 + d) == 46 || (48 + d) == 95) (digit_alphanumeric d h)

one_digit : (n : ℕ) → n < 10 → IsDigitsText n ((48 + n) ∷ [])
one_digit n h = record {
  some = omega arith;
  first = digit_alphanumeric n h;
  all = and_from (is_name_byte (48 + n)) true (digit_name_byte n h) refl;
}

more_digits : (n : ℕ) (ds : List ℕ) → 10 ≤ n → IsDigitsText (n / 10) ds → IsDigitsText n (ds ++ ((48 + n % 10) ∷ []))
more_digits n ds h is = record {
  some = omega (arith, length-append ds ((48 + n % 10) ∷ []), is.some);
  first = ap is_alphanumeric (get_or_append_left ds ((48 + n % 10) ∷ []) 0 0 is.some) ∙ is.first;
  all = list_all-append is_name_byte ds ((48 + n % 10) ∷ []) ∙ and_from (list_all is_name_byte ds) (list_all is_name_byte ((48 + n % 10) ∷ [])) is.all (and_from (is_name_byte (48 + n % 10)) true (digit_name_byte (n % 10) (omega arith)) refl);
}

pub name_decimal : (n : ℕ) → n < 2 ^ 64 → is_name (decimal n) ≡ true
name_decimal n h =
    let is = decimal_by_steps IsDigitsText one_digit more_digits n h in
    let short = length-decimal-le 20 n (lit< tt) (omega arith) h in
    and_from (leb (length (decimal n)) 200 && begins_alphanumeric (decimal n)) (list_all is_name_byte (decimal n)) (and_from (leb (length (decimal n)) 200) (begins_alphanumeric (decimal n)) (le-leb (length (decimal n)) 200 (omega arith)) is.first) is.all

pub safe_numbered : (folder : List ℕ) (n : ℕ) → is_safe_path folder ≡ true → length folder ≤ 900 → n < 2 ^ 64 → is_safe_path (numbered folder n) ≡ true
safe_numbered folder n f short h =
    let digits = length-decimal-le 20 n (lit< tt) (omega arith) h in
    safe_joined folder (decimal n) f (safe_name (decimal n) (name_decimal n h)) (omega (arith, length-append folder (47 ∷ decimal n), digits))
