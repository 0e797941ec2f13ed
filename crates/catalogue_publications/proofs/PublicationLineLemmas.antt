-- The lines of a publication: no line end is in them, and each tells what it spells.
use Rattle.std.proofs.Common.{◌≡◌, ℕ, zero, suc, ◌+◌, ◌-◌, ◌*◌, ◌<◌, ◌≤◌, ◌^◌, ◌/◌, ◌%◌, Bool, true, false, not, ◌&&◌, ◌||◌, nat_eq, List, [], ◌∷◌, ◌++◌, length, map, get_or, codes, Option, Some, None, IsTrue, All, refl, sym, ap, ◌∙◌, arith, append_assoc, append-nil}
use Rattle.std.specs.Bool.{◌==◌}
use Rattle.std.specs.List.{list_any, list_all}
use Rattle.std.specs.Fmt.{decimal}
use Rattle.std.specs.Int.Digits.{digits_of, number_from_digits_after, AllBelowBase}
use Rattle.std.specs.Str.{IsUtf8}
use Rattle.std.proofs.lemmas.Bool.{and_parts, or_parts}
use Rattle.std.proofs.lemmas.Bool.Decides.{nat_tests}
use Rattle.std.proofs.lemmas.Fmt.{decimal_by_steps}
use Rattle.std.proofs.lemmas.Int.Digits.{same_from_digits_of, digits_of_step, first_digits_of, all_below_base_digits_of, number_after_ge}
use Rattle.std.proofs.lemmas.Str.{IsUtf8-from_ascii}
use Rattle.ap_text.specs.Decimals.{is_digit}
use Rattle.std.proofs.lemmas.List.{append_cancel_left, map-append}
use Rattle.ap_text.specs.Names.{is_name, is_name_byte, is_component}
use Rattle.ap_text.specs.Paths.{is_safe_path, is_path_byte}
use Rattle.package_core.proofs.PathLemmas.{safe_is_plain}
use Rattle.machine_state.specs.declared.limit.Kind.{Kind}
use Rattle.machine_state.specs.declared.limit.Kind.TheVariants.{Mirror, Repo, Snapshot, Component}
use Rattle.machine_state.specs.Publications.{is_published}
use Rattle.machine_state.specs.Texts.{AreNames, is_listed, is_path, is_prefix}
use Rattle.catalogue_lines.specs.Lines.{IsPlain}
use Rattle.machine_state.specs.Words.{prefix_word, names_behind, place_text}
use Rattle.catalogue_lines.specs.NameLines.{architectures_line}
use Rattle.catalogue_publications.specs.PublicationLines.{numeral, kind_line, source_line, sources_line}
use Rattle.catalogue_publications.specs.PublicationGrammar.{IsPrefix, IsPlace, IsSource}
use Rattle.catalogue_publications.specs.PublicationReading.{has_form}
use Rattle.catalogue_lines.proofs.ValidLemmas.{all_tail}

-- ---- texts without a byte
abbrev pub Without : ℕ → List ℕ → Type 0
Without c text = list_any (λ b. b == c) text ≡ false

not_itself : (c y : ℕ) → (y == c) ≡ false → y ≡ c → ⊥
not_itself c y h e = grind (arith, nat_tests)

-- what stands before the first such byte, and behind it
pub byte_cut : (c : ℕ) (a b r s : List ℕ) → Without c a → Without c b → a ++ c ∷ r ≡ b ++ c ∷ s → (a ≡ b) × (r ≡ s)
byte_cut c [] [] r s p q e = (refl, cc)
byte_cut c [] (y ∷ ys) r s p q e = let h : c ≡ y = cc in absurd (not_itself c y (or_parts (y == c) (list_any (λ b. b == c) ys) q).0 (sym h))
byte_cut c (x ∷ xs) [] r s p q e = let h : x ≡ c = cc in absurd (not_itself c x (or_parts (x == c) (list_any (λ b. b == c) xs) p).0 h)
byte_cut c (x ∷ xs) (y ∷ ys) r s p q e =
    let t = byte_cut c xs ys r s (or_parts (x == c) (list_any (λ b. b == c) xs) p).1 (or_parts (y == c) (list_any (λ b. b == c) ys) q).1 cc in
    let h : x ≡ y = cc in
    ((λ i. h i ∷ t.0 i), t.1)

without_all : (c : ℕ) (ok : ℕ → Bool) → ((b : ℕ) → ok b ≡ true → (b == c) ≡ false) → (bs : List ℕ) → list_all ok bs ≡ true → Without c bs
without_all c ok h [] e = refl
without_all c ok h (b ∷ bs) e = let p = and_parts (ok b) (list_all ok bs) e in rw (h b p.0) (without_all c ok h bs p.1)

without_both : (c : ℕ) (a b : List ℕ) → Without c a → Without c b → Without c (a ++ b)
without_both c [] b p q = q
without_both c (x ∷ xs) b p q = let t = or_parts (x == c) (list_any (λ b. b == c) xs) p in rw t.0 (without_both c xs b t.1 q)

name_bytes : (name : List ℕ) → is_name name ≡ true → list_all is_name_byte name ≡ true
name_bytes name e = (and_parts _ (list_all is_name_byte name) e).1

pub name_no_blank : (name : List ℕ) → is_name name ≡ true → Without 32 name
name_no_blank name e = without_all 32 is_name_byte (λ b h. grind (arith, nat_tests)) name (name_bytes name e)

pub name_one_line : (name : List ℕ) → is_name name ≡ true → IsPlain name
name_one_line name e = without_all 10 is_name_byte (λ b h. grind (arith, nat_tests)) name (name_bytes name e)

-- ---- paths
pub prefix_safe : (path : List ℕ) → is_prefix path ≡ true → is_safe_path path ≡ true
prefix_safe path e = (and_parts (is_safe_path path) _ (and_parts (is_path 100 path) _ e).0).0

prefix_bytes : (prefix : Option (List ℕ)) → IsPrefix prefix → list_all is_path_byte (prefix_word prefix) ≡ true
prefix_bytes None h = refl
prefix_bytes (Some path) h = (safe_is_plain path (prefix_safe path h)).1

pub prefix_no_blank : (prefix : Option (List ℕ)) → IsPrefix prefix → Without 32 (prefix_word prefix)
prefix_no_blank prefix h = without_all 32 is_path_byte (λ b k. grind (arith, nat_tests)) (prefix_word prefix) (prefix_bytes prefix h)

prefix_one_line : (prefix : Option (List ℕ)) → IsPrefix prefix → IsPlain (prefix_word prefix)
prefix_one_line prefix h = without_all 10 is_path_byte (λ b k. grind (arith, nat_tests)) (prefix_word prefix) (prefix_bytes prefix h)

-- `.` is no prefix
pub no_dot : (path : List ℕ) → is_prefix path ≡ true → codes "." ≡ path → ⊥
no_dot path h e = let t : is_prefix (codes ".") ≡ true = ap is_prefix e ∙ h in cc

pub same_prefix : (a b : Option (List ℕ)) → IsPrefix a → IsPrefix b → prefix_word a ≡ prefix_word b → a ≡ b
same_prefix None None g h e = refl
same_prefix None (Some q) g h e = absurd (no_dot q h e)
same_prefix (Some p) None g h e = absurd (no_dot p g (sym e))
same_prefix (Some p) (Some q) g h e = ap Some e

pub same_place : (a b : Option (List ℕ) × List ℕ) → IsPlace a → IsPlace b → place_text a ≡ place_text b → a ≡ b
same_place a b g h e =
    let t = byte_cut 32 (prefix_word a.0) (prefix_word b.0) a.1 b.1 (prefix_no_blank a.0 g.prefix) (prefix_no_blank b.0 h.prefix) e in
    let p = same_prefix a.0 b.0 g.prefix h.prefix t.0 in
    λ i. (p i, t.1 i)

pub place_one_line : (place : Option (List ℕ) × List ℕ) → IsPlace place → IsPlain (place_text place)
place_one_line place g = without_both 10 (prefix_word place.0) (32 ∷ place.1) (prefix_one_line place.0 g.prefix) (name_one_line place.1 g.dist)

-- ---- kinds
pub same_kind_line : (a b : Kind) → IsTrue (is_published a) → IsTrue (is_published b) → kind_line a ≡ kind_line b → b ≡ a
same_kind_line Repo Repo g h e = refl
same_kind_line Repo Snapshot g h e = cc
same_kind_line Repo Mirror g h e = cc
same_kind_line Repo Component g h e = cc
same_kind_line Snapshot Repo g h e = cc
same_kind_line Snapshot Snapshot g h e = refl
same_kind_line Snapshot Mirror g h e = cc
same_kind_line Snapshot Component g h e = cc
same_kind_line Mirror b g h e = cc
same_kind_line Component b g h e = cc

-- ---- names behind a key
listed_is : (name : List ℕ) → is_listed name ≡ true → is_name name ≡ true
listed_is name e = (and_parts (is_name name) _ (and_parts _ _ e).0).0

names_one_line : (names : List (List ℕ)) → All (λ name. IsTrue (is_listed name)) names → IsPlain (names_behind names)
names_one_line [] h = refl
names_one_line (x ∷ xs) h = without_both 10 x (names_behind xs) (name_one_line x (listed_is x (h 0 x (omega arith)))) (names_one_line xs (all_tail (λ name. IsTrue (is_listed name)) x xs h))

pub architectures_plain : (names : List (List ℕ)) → AreNames is_listed names → IsPlain (architectures_line names)
architectures_plain names h = names_one_line names h.each

-- ---- numbers
pub decimal_numeral : (n : ℕ) → n < 2 ^ 64 → numeral n ≡ decimal n
decimal_numeral n small = decimal_by_steps (λ k ds. numeral k ≡ ds) one more n small
  where
    one : (n : ℕ) → n < 10 → numeral n ≡ (48 + n) ∷ []
    one zero l = refl
    one (suc n) l = ap (map (λ digit. 48 + digit)) (digits_of_step 10 (suc n) (omega arith) (omega arith) ∙ small_digits)
      where
        small_digits : digits_of 10 (suc n / 10) ++ (suc n % 10 ∷ []) ≡ suc n ∷ []
        small_digits =
            let z : suc n / 10 ≡ 0 = omega arith in
            let m : suc n % 10 ≡ suc n = omega arith in
            λ i. digits_of 10 (z i) ++ (m i ∷ [])

    more : (n : ℕ) (ds : List ℕ) → 10 ≤ n → numeral (n / 10) ≡ ds → numeral n ≡ ds ++ ((48 + n % 10) ∷ [])
    more zero ds le h = absurd (omega arith)
    more (suc n) ds le h =
        ap (map (λ digit. 48 + digit)) (digits_of_step 10 (suc n) (omega arith) (omega arith))
        ∙ map-append (λ digit. 48 + digit) (digits_of 10 (suc n / 10)) (suc n % 10 ∷ [])
        ∙ ap (λ l. l ++ ((48 + suc n % 10) ∷ [])) (front (suc n / 10) (omega arith) ∙ h)
      where
        front : (k : ℕ) → 0 < k → map (λ digit. 48 + digit) (digits_of 10 k) ≡ numeral k
        front zero l = absurd (omega arith)
        front (suc k) l = refl

digits_apart : (xs ys : List ℕ) → map (λ digit. 48 + digit) xs ≡ map (λ digit. 48 + digit) ys → xs ≡ ys
digits_apart [] [] e = refl
digits_apart [] (y ∷ ys) e = cc
digits_apart (x ∷ xs) [] e = cc
digits_apart (x ∷ xs) (y ∷ ys) e =
    let h : 48 + x ≡ 48 + y = cc in
    let s : x ≡ y = omega arith in
    let t = digits_apart xs ys cc in
    λ i. s i ∷ t i

not_zero : (n : ℕ) → numeral (suc n) ≡ codes "0" → ⊥
not_zero n e = absurd (of (digits_of 10 (suc n)) (first_digits_of 10 (suc n) (omega arith) (omega arith)) e)
  where
    of : (ds : List ℕ) → 0 < get_or ds 0 0 → map (λ digit. 48 + digit) ds ≡ codes "0" → ⊥
    of [] l e = cc
    of (d ∷ ds) l e = let h : 48 + d ≡ 48 = cc in absurd (omega arith)

pub numeral_injective : (m n : ℕ) → numeral m ≡ numeral n → m ≡ n
numeral_injective zero zero e = refl
numeral_injective zero (suc n) e = absurd (not_zero n (sym e))
numeral_injective (suc m) zero e = absurd (not_zero m e)
numeral_injective (suc m) (suc n) e = same_from_digits_of 10 (suc m) (suc n) (omega arith) (digits_apart (digits_of 10 (suc m)) (digits_of 10 (suc n)) e)

digits_one_line : (ds : List ℕ) → IsPlain (map (λ digit. 48 + digit) ds)
digits_one_line [] = refl
digits_one_line (d ∷ ds) = rw (apart d) (digits_one_line ds)
  where
    apart : (d : ℕ) → (48 + d == 10) ≡ false
    apart d = grind (arith, nat_tests)

pub sources_plain : (n : ℕ) → IsPlain (sources_line n)
sources_plain zero = refl
sources_plain (suc n) = digits_one_line (digits_of 10 (suc n))

-- ---- sources
pub component_no_blank : (name : List ℕ) → is_component name ≡ true → Without 32 name
component_no_blank name e = name_no_blank name (and_parts (is_name name) _ e).0

pub same_source : (a b : List ℕ × List ℕ) → IsSource a → IsSource b → source_line a ≡ source_line b → a ≡ b
same_source a b g h e =
    let t = byte_cut 32 a.0 b.0 a.1 b.1 (component_no_blank a.0 g.component) (component_no_blank b.0 h.component) (append_cancel_left (codes "source ") _ _ e) in
    λ i. (t.0 i, t.1 i)

pub source_plain : (source : List ℕ × List ℕ) → IsSource source → IsPlain (source_line source)
source_plain source g = without_both 10 source.0 (32 ∷ source.1) (name_one_line source.0 (and_parts (is_name source.0) _ g.component).0) (name_one_line source.1 g.name)

-- ---- what is text
visible_small : (b : ℕ) → is_path_byte b ≡ true → b < 128
visible_small b e = grind (arith, nat_tests)

name_small : (b : ℕ) → is_name_byte b ≡ true → b < 128
name_small b e = grind (arith, nat_tests)

small_all : (ok : ℕ → Bool) → ((b : ℕ) → ok b ≡ true → b < 128) → (bs : List ℕ) → list_all ok bs ≡ true → (i : ℕ) → get_or bs i 0 < 128
small_all ok f [] e zero = omega arith
small_all ok f [] e (suc i) = omega arith
small_all ok f (b ∷ bs) e zero = f b (and_parts (ok b) (list_all ok bs) e).0
small_all ok f (b ∷ bs) e (suc i) = small_all ok f bs (and_parts (ok b) (list_all ok bs) e).1 i

pub name_text : (name : List ℕ) → is_name name ≡ true → IsUtf8 name
name_text name e = IsUtf8-from_ascii name (small_all is_name_byte name_small name (name_bytes name e))

pub place_is_text : (place : Option (List ℕ) × List ℕ) → IsPlace place → IsUtf8 (place_text place)
place_is_text place g = IsUtf8-from_ascii (place_text place) (both (prefix_word place.0) (32 ∷ place.1) (small_all is_path_byte visible_small (prefix_word place.0) (prefix_bytes place.0 g.prefix)) blank)
  where
    both : (xs ys : List ℕ) → ((i : ℕ) → get_or xs i 0 < 128) → ((i : ℕ) → get_or ys i 0 < 128) → (i : ℕ) → get_or (xs ++ ys) i 0 < 128
    both [] ys h k i = k i
    both (x ∷ xs) ys h k zero = h zero
    both (x ∷ xs) ys h k (suc i) = both xs ys (λ j. h (suc j)) k i

    blank : (i : ℕ) → get_or (32 ∷ place.1) i 0 < 128
    blank zero = omega arith
    blank (suc i) = small_all is_name_byte name_small place.1 (name_bytes place.1 g.dist) i

-- ---- digits
pub digit_text : (bs : List ℕ) → has_form bs ≡ true → IsUtf8 bs
digit_text bs e = IsUtf8-from_ascii bs (small_all is_digit digit_small bs (digits bs e))
  where
    digit_small : (b : ℕ) → is_digit b ≡ true → b < 128
    digit_small b e = grind (arith, nat_tests)

    digits : (bs : List ℕ) → has_form bs ≡ true → list_all is_digit bs ≡ true
    digits [] e = refl
    digits (b ∷ bs) e = (and_parts (is_digit b && list_all is_digit bs) _ e).0

glyphs_are_digits : (ds : List ℕ) → AllBelowBase 10 ds → list_all is_digit (map (λ digit. 48 + digit) ds) ≡ true
glyphs_are_digits [] a = refl
glyphs_are_digits (d ∷ ds) a = rw (is d a.0) (glyphs_are_digits ds a.1)
  where
    is : (d : ℕ) → d < 10 → is_digit (48 + d) ≡ true
    is d l = grind (arith, nat_tests)

-- what is written for a number is digits as numbers are written
pub numeral_form : (n : ℕ) → has_form (numeral n) ≡ true
numeral_form zero = refl
numeral_form (suc n) = of (digits_of 10 (suc n)) (first_digits_of 10 (suc n) (omega arith) (omega arith)) (all_below_base_digits_of 10 (suc n) (omega arith))
  where
    lead : (d : ℕ) → 0 < d → (48 + d == 48) ≡ false
    lead d l = grind (arith, nat_tests)

    of : (ds : List ℕ) → 0 < get_or ds 0 0 → AllBelowBase 10 ds → has_form (map (λ digit. 48 + digit) ds) ≡ true
    of [] l a = absurd (omega arith)
    of (d ∷ ds) l a = rw (glyphs_are_digits (d ∷ ds) a, lead d l) refl

-- digits behind a number
digits_behind : (n : ℕ) (ds : List ℕ) → 0 < n → AllBelowBase 10 ds → digits_of 10 (number_from_digits_after 10 n ds) ≡ digits_of 10 n ++ ds
digits_behind n [] some a = sym (append-nil (digits_of 10 n))
digits_behind n (d ∷ ds) some a =
    let below : d < 10 = a.0 in
    let front : (n * 10 + d) / 10 ≡ n = omega arith in
    let end : (n * 10 + d) % 10 ≡ d = omega arith in
    digits_behind (n * 10 + d) ds (omega arith) a.1
    ∙ ap (λ l. l ++ ds) (digits_of_step 10 (n * 10 + d) (omega arith) (omega arith) ∙ (λ i. digits_of 10 (front i) ++ (end i ∷ [])))
    ∙ append_assoc (digits_of 10 n) (d ∷ []) ds

-- such digits are what is written for some number
pub form_number : (bs : List ℕ) → has_form bs ≡ true → (n : ℕ) × (bs ≡ numeral n)
form_number [] e = cc
form_number (b ∷ bs) e =
    let p = and_parts (is_digit b && list_all is_digit bs) _ e in
    let q = and_parts (is_digit b) (list_all is_digit bs) p.0 in
    by_test (b == 48) refl q.0 q.1 p.1
  where
    values : List ℕ → List ℕ
    values [] = []
    values (c ∷ cs) = (c - 48) ∷ values cs

    below : (cs : List ℕ) → list_all is_digit cs ≡ true → AllBelowBase 10 (values cs)
    below [] h = tt
    below (c ∷ cs) h = let p = and_parts (is_digit c) (list_all is_digit cs) h in (digit c p.0, below cs p.1)
      where
        digit : (c : ℕ) → is_digit c ≡ true → c - 48 < 10
        digit c h = grind (arith, nat_tests)

    back : (cs : List ℕ) → list_all is_digit cs ≡ true → map (λ digit. 48 + digit) (values cs) ≡ cs
    back [] h = refl
    back (c ∷ cs) h = let p = and_parts (is_digit c) (list_all is_digit cs) h in let t = back cs p.1 in let s = same c p.0 in λ i. s i ∷ t i
      where
        same : (c : ℕ) → is_digit c ≡ true → 48 + (c - 48) ≡ c
        same c h = grind (arith, nat_tests)

    empty : (cs : List ℕ) → nat_eq (length cs) 0 ≡ true → cs ≡ []
    empty [] h = refl
    empty (c ∷ cs) h = absurd (no_length (length cs) h)
      where
        no_length : (k : ℕ) → nat_eq (suc k) 0 ≡ true → ⊥
        no_length k h = grind (arith, nat_tests)

    positive : (k : ℕ) → 0 < k → numeral k ≡ map (λ digit. 48 + digit) (digits_of 10 k)
    positive zero l = absurd (omega arith)
    positive (suc k) l = refl

    by_test : (t : Bool) → (b == 48) ≡ t → is_digit b ≡ true → list_all is_digit bs ≡ true → (not (b == 48) || nat_eq (length bs) 0) ≡ true → (n : ℕ) × (b ∷ bs ≡ numeral n)
    by_test true h d ds o =
        let z : bs ≡ [] = empty bs (rw h at o) in
        let s : b ≡ 48 = is_zero b h in
        (0, λ i. s i ∷ z i)
      where
        is_zero : (b : ℕ) → (b == 48) ≡ true → b ≡ 48
        is_zero b h = grind (arith, nat_tests)
    by_test false h d ds o =
        let some : 0 < b - 48 = positive_digit b h d in
        let small : b - 48 < 10 = digit_value b d in
        let n = number_from_digits_after 10 (b - 48) (values bs) in
        let le = number_after_ge 10 (b - 48) (values bs) (omega arith) in
        let one : digits_of 10 (b - 48) ≡ (b - 48) ∷ [] = single (b - 48) some small in
        let s : 48 + (b - 48) ≡ b = omega arith in
        (n, sym (positive n (omega arith) ∙ ap (map (λ digit. 48 + digit)) (digits_behind (b - 48) (values bs) some (below bs ds) ∙ ap (λ l. l ++ values bs) one) ∙ (λ i. s i ∷ back bs ds i)))
      where
        positive_digit : (b : ℕ) → (b == 48) ≡ false → is_digit b ≡ true → 0 < b - 48
        positive_digit b h d = grind (arith, nat_tests)

        digit_value : (b : ℕ) → is_digit b ≡ true → b - 48 < 10
        digit_value b d = grind (arith, nat_tests)

        single : (k : ℕ) → 0 < k → k < 10 → digits_of 10 k ≡ k ∷ []
        single k some small =
            let z : k / 10 ≡ 0 = omega arith in
            let m : k % 10 ≡ k = omega arith in
            digits_of_step 10 k (omega arith) some ∙ (λ i. digits_of 10 (z i) ++ (m i ∷ []))
