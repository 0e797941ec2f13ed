-- A stanza stays one: fields added, a value that goes on, a field dropped.
use Rattle.std.proofs.Common.{◌≡◌, ℕ, suc, zero, ◌<◌, Bool, true, false, cond, not, ◌||◌, ◌&&◌, List, [], ◌∷◌, ◌++◌, refl, sym, ap, ◌∙◌, arith, filter, get_or}
use Rattle.std.specs.Bool.{◌==◌}
use Rattle.std.specs.List.{list_any, list_all}
use Rattle.std.specs.Str.{is_utf8, IsUtf8}
use Rattle.std.proofs.lemmas.Bool.{true≢false, or_parts, and_parts, and_from, not-true, not_from_false, or_from}
use Rattle.std.proofs.lemmas.Str.{IsUtf8-append, IsUtf8-from_ascii, is_utf8-from_IsUtf8, IsUtf8-from_is_utf8}
use Rattle.control_stanza.specs.declared.stanza.Field.{Field}
use Rattle.control_stanza.specs.Lines.{begun, starts_blank, ends_blank, has_return, has_line_end, is_field_name}
use Rattle.control_stanza.specs.Fields.{same_name, has_name, are_distinct, value_lines, is_first_line, is_further_line, are_value_lines, is_value, is_field, is_stanza, without_name}
use Rattle.control_stanza.specs.Reading.{go_on}

any_left : (p : ℕ → Bool) (xs ys : List ℕ) → list_any p (xs ++ ys) ≡ false → list_any p xs ≡ false
any_left p [] ys h = refl
any_left p (x ∷ xs) ys h = let q = or_parts (p x) (list_any p (xs ++ ys)) h in rw q.0 (any_left p xs ys q.1)

pub any_parts : (p : ℕ → Bool) (xs ys : List ℕ) → list_any p (xs ++ ys) ≡ false → (list_any p xs ≡ false) × (list_any p ys ≡ false)
any_parts p [] ys h = (refl, h)
any_parts p (x ∷ xs) ys h =
    let q = or_parts (p x) (list_any p (xs ++ ys)) h in
    let r = any_parts p xs ys q.1 in
    (rw q.0 r.0, r.1)

pub any_join : (p : ℕ → Bool) (xs ys : List ℕ) → list_any p xs ≡ false → list_any p ys ≡ false → list_any p (xs ++ ys) ≡ false
any_join p [] ys h g = g
any_join p (x ∷ xs) ys h g = let q = or_parts (p x) (list_any p xs) h in rw q.0 (any_join p xs ys q.1 g)

pub one_line : (v : List ℕ) → has_line_end v ≡ false → value_lines v ≡ v ∷ []
one_line [] h = refl
one_line (c ∷ cs) h = let q = or_parts (c == 10) (has_line_end cs) h in rw q.0 (ap (begun c) (one_line cs q.1))

pub begun_push : (c : ℕ) (ls : List (List ℕ)) (l : List ℕ) → (ls ≡ [] → ⊥) → begun c (ls ++ l ∷ []) ≡ begun c ls ++ l ∷ []
begun_push c [] l h = absurd (h refl)
begun_push c (m ∷ ms) l h = refl

pub some_line : (v : List ℕ) → value_lines v ≡ [] → ⊥
some_line [] h = cc
some_line (c ∷ cs) h = by_test (c == 10) h
  where
    of_begun : (ls : List (List ℕ)) → begun c ls ≡ [] → ⊥
    of_begun [] h = cc
    of_begun (l ∷ ls) h = cc

    by_test : (b : Bool) → cond b ([] ∷ value_lines cs) (begun c (value_lines cs)) ≡ [] → ⊥
    by_test true h = cc
    by_test false h = of_begun (value_lines cs) h

pub lines_more : (v more : List ℕ) → has_line_end more ≡ false → value_lines (v ++ 10 ∷ more) ≡ value_lines v ++ more ∷ []
lines_more [] more h = ap (λ l. [] ∷ l) (one_line more h)
lines_more (c ∷ cs) more h = by_test (c == 10) (lines_more cs more h)
  where
    by_test : (b : Bool) → value_lines (cs ++ 10 ∷ more) ≡ value_lines cs ++ more ∷ [] → cond b ([] ∷ value_lines (cs ++ 10 ∷ more)) (begun c (value_lines (cs ++ 10 ∷ more))) ≡ cond b ([] ∷ value_lines cs) (begun c (value_lines cs)) ++ more ∷ []
    by_test true e = ap (λ l. [] ∷ l) e
    by_test false e = ap (begun c) e ∙ begun_push c (value_lines cs) more (some_line cs)

all_push : {A : Type 0} (p : A → Bool) (xs : List A) (y : A) → list_all p xs ≡ true → p y ≡ true → list_all p (xs ++ y ∷ []) ≡ true
all_push p [] y h g = rw g refl
all_push p (x ∷ xs) y h g = let q = and_parts (p x) (list_all p xs) h in rw q.0 (all_push p xs y q.1 g)

further_push : (ls : List (List ℕ)) (more : List ℕ) → are_value_lines ls ≡ true → is_further_line more ≡ true → are_value_lines (ls ++ more ∷ []) ≡ true
further_push [] more h g = absurd (true≢false (sym h))
further_push (l ∷ ls) more h g = let q = and_parts (is_first_line l) (list_all is_further_line ls) h in and_from _ _ q.0 (all_push is_further_line ls more q.1 g)

-- a value's first line
pub value_first : (value : List ℕ) → starts_blank value ≡ false → ends_blank value ≡ false → has_return value ≡ false → has_line_end value ≡ false → is_utf8 value ≡ true → is_value value ≡ true
value_first value s e r l u = let one = one_line value l in rw one (rw (s, e, r) u)

utf8_line : (more : List ℕ) → is_utf8 more ≡ true → IsUtf8 (10 ∷ more)
utf8_line more h = IsUtf8-append (10 ∷ []) more (IsUtf8-from_ascii (10 ∷ []) small) (IsUtf8-from_is_utf8 more h)
  where
    small : (i : ℕ) → get_or (10 ∷ []) i 0 < 128
    small zero = omega arith
    small (suc i) = omega arith

-- a further line of it
pub value_more : (value more : List ℕ) → is_value value ≡ true → is_further_line more ≡ true → has_return more ≡ false → has_line_end more ≡ false → is_utf8 more ≡ true → is_value (value ++ 10 ∷ more) ≡ true
value_more value more v f r l u =
    let p = and_parts _ (is_utf8 value) v in
    let q = and_parts (are_value_lines (value_lines value)) (not (has_return value)) p.0 in
    let ret : has_return (value ++ 10 ∷ more) ≡ false = any_join (λ c. c == 13) value (10 ∷ more) (not-true _ q.1) r in
    let lines : are_value_lines (value_lines (value ++ 10 ∷ more)) ≡ true = ap are_value_lines (lines_more value more l) ∙ further_push (value_lines value) more q.0 f in
    let utf8 : is_utf8 (value ++ 10 ∷ more) ≡ true = is_utf8-from_IsUtf8 (value ++ 10 ∷ more) (IsUtf8-append value (10 ∷ more) (IsUtf8-from_is_utf8 value p.1) (utf8_line more u)) in
    and_from _ _ (and_from _ _ lines (not_from_false _ ret)) utf8

pub stanza_one : (f : Field) → is_field f ≡ true → is_stanza (f ∷ []) ≡ true
unfolding is_stanza
stanza_one f h = rw h refl

other_push : (fields : List Field) (f : Field) (name : List ℕ) → list_any (λ g. same_name name g.name) fields ≡ false → same_name name f.name ≡ false → list_any (λ g. same_name name g.name) (fields ++ f ∷ []) ≡ false
other_push [] f name h g = rw g refl
other_push (e ∷ es) f name h g = let p = or_parts (same_name name e.name) (list_any (λ g. same_name name g.name) es) h in rw p.0 (other_push es f name p.1 g)

distinct_push : (fields : List Field) (f : Field) → are_distinct fields ≡ true → has_name fields f.name ≡ false → are_distinct (fields ++ f ∷ []) ≡ true
distinct_push [] f h g = refl
distinct_push (e ∷ es) f h g =
    let p = or_parts (same_name e.name f.name) (has_name es f.name) g in
    let q = and_parts _ (are_distinct es) h in
    and_from _ _ (not_from_false _ (other_push es f e.name (not-true _ q.0) p.0)) (distinct_push es f q.1 p.1)

pub stanza_push : (fields : List Field) (f : Field) → is_stanza fields ≡ true → is_field f ≡ true → has_name fields f.name ≡ false → is_stanza (fields ++ f ∷ []) ≡ true
unfolding is_stanza
stanza_push fields f h g n =
    let p = and_parts (list_all is_field fields) (are_distinct fields) h in
    and_from _ _ (all_push is_field fields f p.0 g) (distinct_push fields f p.1 n)

other_go_on : (fields : List Field) (more name : List ℕ) → list_any (λ g. same_name name g.name) (go_on fields more) ≡ list_any (λ g. same_name name g.name) fields
other_go_on [] more name = refl
other_go_on (f ∷ []) more name = refl
other_go_on (f ∷ e ∷ es) more name = ap (λ b. same_name name f.name || b) (other_go_on (e ∷ es) more name)

distinct_go_on : (fields : List Field) (more : List ℕ) → are_distinct (go_on fields more) ≡ are_distinct fields
distinct_go_on [] more = refl
distinct_go_on (f ∷ []) more = refl
distinct_go_on (f ∷ e ∷ es) more = (λ i. not (other_go_on (e ∷ es) more f.name i) && distinct_go_on (e ∷ es) more i)

fields_go_on : (fields : List Field) (more : List ℕ) → list_all is_field fields ≡ true → is_further_line more ≡ true → has_return more ≡ false → has_line_end more ≡ false → is_utf8 more ≡ true → list_all is_field (go_on fields more) ≡ true
fields_go_on [] more h f r l u = refl
fields_go_on (e ∷ []) more h f r l u =
    let p = and_parts (is_field e) true h in
    let q = and_parts (is_field_name e.name) (is_value e.value) p.0 in
    and_from _ _ (and_from _ _ q.0 (value_more e.value more q.1 f r l u)) refl
fields_go_on (e ∷ d ∷ ds) more h f r l u =
    let p = and_parts (is_field e) (list_all is_field (d ∷ ds)) h in
    and_from _ _ p.0 (fields_go_on (d ∷ ds) more p.1 f r l u)

pub stanza_go_on : (fields : List Field) (more : List ℕ) → is_stanza fields ≡ true → is_further_line more ≡ true → has_return more ≡ false → has_line_end more ≡ false → is_utf8 more ≡ true → is_stanza (go_on fields more) ≡ true
unfolding is_stanza
stanza_go_on fields more h f r l u =
    let p = and_parts (list_all is_field fields) (are_distinct fields) h in
    and_from _ _ (fields_go_on fields more p.0 f r l u) (distinct_go_on fields more ∙ p.1)

all_filter : {A : Type 0} (p q : A → Bool) (xs : List A) → list_all p xs ≡ true → list_all p (filter q xs) ≡ true
all_filter p q [] h = refl
all_filter p q (x ∷ xs) h = let r = and_parts (p x) (list_all p xs) h in by_test (q x) r.0 (all_filter p q xs r.1)
  where
    by_test : (b : Bool) → p x ≡ true → list_all p (filter q xs) ≡ true → list_all p (cond b (x ∷ filter q xs) (filter q xs)) ≡ true
    by_test true g h = and_from _ _ g h
    by_test false g h = h

any_filter : {A : Type 0} (p q : A → Bool) (xs : List A) → list_any p xs ≡ false → list_any p (filter q xs) ≡ false
any_filter p q [] h = refl
any_filter p q (x ∷ xs) h = let r = or_parts (p x) (list_any p xs) h in by_test (q x) r.0 (any_filter p q xs r.1)
  where
    by_test : (b : Bool) → p x ≡ false → list_any p (filter q xs) ≡ false → list_any p (cond b (x ∷ filter q xs) (filter q xs)) ≡ false
    by_test true g h = or_from _ _ g h
    by_test false g h = h

distinct_filter : (q : Field → Bool) (fields : List Field) → are_distinct fields ≡ true → are_distinct (filter q fields) ≡ true
distinct_filter q [] h = refl
distinct_filter q (e ∷ es) h = let r = and_parts _ (are_distinct es) h in by_test (q e) (any_filter (λ g. same_name e.name g.name) q es (not-true _ r.0)) (distinct_filter q es r.1)
  where
    by_test : (b : Bool) → list_any (λ g. same_name e.name g.name) (filter q es) ≡ false → are_distinct (filter q es) ≡ true → are_distinct (cond b (e ∷ filter q es) (filter q es)) ≡ true
    by_test true g h = and_from _ _ (not_from_false _ g) h
    by_test false g h = h

pub stanza_without : (fields : List Field) (name : List ℕ) → is_stanza fields ≡ true → is_stanza (without_name fields name) ≡ true
unfolding is_stanza without_name
stanza_without fields name h =
    let p = and_parts (list_all is_field fields) (are_distinct fields) h in
    and_from _ _ (all_filter is_field _ fields p.0) (distinct_filter _ fields p.1)
