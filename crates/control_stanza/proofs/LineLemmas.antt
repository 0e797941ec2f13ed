-- Lines, from their ends.
use Rattle.std.proofs.Common.{◌≡◌, ◌≢◌, ℕ, suc, zero, ◌+◌, ◌-◌, ◌<◌, ◌≤◌, Bool, true, false, cond, List, [], ◌∷◌, ◌++◌, length, take, drop, get_or, set, refl, sym, ap, ◌∙◌, subst, arith, append-nil, add-one, drop-cons, take-suc, Option, None, Some, Err, Bor}
use Rattle.std.specs.Bool.{◌==◌}
use Rattle.std.specs.List.{list_any}
use Rattle.std.proofs.lemmas.Bool.{or_parts, ne_eqb, false_from_ne_true}
use Rattle.std.specs.Option.{MatchOption}
use Rattle.std.specs.Str.{IsUtf8, is_utf8}
use Rattle.std.proofs.lemmas.Str.{IsUtf8-from_is_utf8, is_utf8-from_IsUtf8}
use Rattle.control_stanza.specs.declared.fault.StanzaKind.TheVariants.{NotUtf8}
use Rattle.std.proofs.lemmas.Bool.Decides.{nat_tests}
use Rattle.std.proofs.lemmas.List.{take-append-drop}
use Rattle.control_stanza.specs.declared.stanza.Field.{Field}
use Rattle.control_stanza.specs.Reading.{go_on}
use Rattle.control_stanza.specs.Lines.{is_blank, trim_start, trim_end, kept, lines_of, begun, bare, before_colon, from_colon, has_return, line_of, shape_of}

kept_push : (x : ℕ) (xs : List ℕ) (c : ℕ) → kept x (xs ++ c ∷ []) ≡ x ∷ (xs ++ c ∷ [])
kept_push x [] c = refl
kept_push x (y ∷ ys) c = refl

pub trim_end_push : (xs : List ℕ) (c : ℕ) → trim_end (xs ++ c ∷ []) ≡ cond (is_blank c) (trim_end xs) (xs ++ c ∷ [])
trim_end_push [] c = refl
trim_end_push (x ∷ xs) c = ap (kept x) (trim_end_push xs c) ∙ by_test (is_blank c)
  where
    by_test : (b : Bool) → kept x (cond b (trim_end xs) (xs ++ c ∷ [])) ≡ cond b (kept x (trim_end xs)) (x ∷ (xs ++ c ∷ []))
    by_test true = refl
    by_test false = kept_push x xs c

lines_last : (x : ℕ) (xs : List ℕ) → list_any (λ c. c == 10) (x ∷ xs) ≡ false → lines_of (x ∷ xs) ≡ (x ∷ xs) ∷ []
lines_last x [] h = let p = or_parts (x == 10) false h in rw p.0 refl
lines_last x (y ∷ ys) h =
    let p = or_parts (x == 10) (list_any (λ c. c == 10) (y ∷ ys)) h in
    rw p.0 (ap (begun x) (lines_last y ys p.1))

pub bare_same : (xs : List ℕ) → list_any (λ c. c == 10) xs ≡ false → bare xs ≡ xs
bare_same [] h = refl
bare_same (x ∷ xs) h = let p = or_parts (x == 10) (list_any (λ c. c == 10) xs) h in rw p.0 (ap (λ l. x ∷ l) (bare_same xs p.1))

-- a line that has its end
pub line_then : (text : List ℕ) (n c : ℕ) (more : List ℕ) → drop n text ≡ c ∷ more → c ≡ 10 → list_any (λ c. c == 10) (take n text) ≡ false → (lines_of text ≡ take (suc n) text ∷ lines_of more) × (bare (take (suc n) text) ≡ take n text)
line_then [] zero c more e t f = cc
line_then [] (suc n) c more e t f = cc
line_then (x ∷ xs) zero c more e t f =
    let h : x ≡ 10 = cc in
    let m : xs ≡ more = cc in
    (rw (h, m) refl, rw h refl)
line_then (x ∷ xs) (suc n) c more e t f =
    let p = or_parts (x == 10) (list_any (λ c. c == 10) (take n xs)) f in
    let h = line_then xs n c more e t p.1 in
    (rw p.0 (ap (begun x) h.0), rw p.0 (ap (λ l. x ∷ l) h.1))

-- a last line that has none
pub line_alone : (text : List ℕ) (n : ℕ) → drop n text ≡ [] → (text ≡ [] → ⊥) → list_any (λ c. c == 10) (take n text) ≡ false → (lines_of text ≡ text ∷ []) × (bare text ≡ take n text)
line_alone text n e ne none =
    let whole : take n text ≡ text = sym (append-nil (take n text)) ∙ ap (λ l. take n text ++ l) (sym e) ∙ take-append-drop n text in
    let free : list_any (λ c. c == 10) text ≡ false = subst (λ (l : List ℕ). list_any (λ c. c == 10) l ≡ false) whole none in
    (alone text ne free, bare_same text free ∙ sym whole)
  where
    alone : (text : List ℕ) → (text ≡ [] → ⊥) → list_any (λ c. c == 10) text ≡ false → lines_of text ≡ text ∷ []
    alone [] ne h = absurd (ne refl)
    alone (x ∷ xs) ne h = lines_last x xs h

-- the last field, written at its place
pub go_on_at : (fields : List Field) (more : List ℕ) (n : ℕ) (d : Field) → n ≡ length fields - 1 → 0 < length fields → set fields n (record (get_or fields n d) { value = (get_or fields n d).value ++ 10 ∷ more }) ≡ go_on fields more
go_on_at [] more n d e l = absurd (omega arith)
go_on_at (f ∷ []) more zero d e l = refl
go_on_at (f ∷ []) more (suc n) d e l = absurd (omega arith)
go_on_at (f ∷ g ∷ gs) more zero d e l = absurd (omega arith)
go_on_at (f ∷ g ∷ gs) more (suc n) d e l = ap (λ t. f ∷ t) (go_on_at (g ∷ gs) more n d (omega arith) (omega arith))

pub first_of_drop : (text : List ℕ) (n c : ℕ) (more : List ℕ) → drop n text ≡ c ∷ more → (n < length text) × (get_or text n 0 ≡ c)
first_of_drop [] zero c more h = cc
first_of_drop [] (suc n) c more h = cc
first_of_drop (x ∷ xs) zero c more h = (omega arith, cc)
first_of_drop (x ∷ xs) (suc n) c more h = let p = first_of_drop xs n c more h in (omega arith, p.1)

pub blank_small : (c : ℕ) → is_blank c ≡ true → c < 128
unfolding is_blank
blank_small c h = grind (arith, nat_tests)

-- blanks in front, one after another
pub trim_start_past : (text : List ℕ) (n : ℕ) → n < length text → is_blank (get_or text n 0) ≡ true → trim_start (drop n text) ≡ trim_start (drop (n + 1) text)
trim_start_past text n l h = let e = drop-cons text n 0 l in rw (add-one, e) (rw h refl)

pub trim_start_at : (text : List ℕ) (n : ℕ) → n < length text → is_blank (get_or text n 0) ≡ false → trim_start (drop n text) ≡ drop n text
trim_start_at text n l h = let e = drop-cons text n 0 l in rw e (rw h refl)

-- blanks at the end, one after another
pub trim_end_past : (text : List ℕ) (n : ℕ) → 0 < n → n ≤ length text → is_blank (get_or text (n - 1) 0) ≡ true → trim_end (take n text) ≡ trim_end (take (n - 1) text)
trim_end_past text n p l h =
    let e : suc (n - 1) ≡ n = omega arith in
    let t = take-suc text (n - 1) 0 (omega arith) in
    subst (λ (k : ℕ). trim_end (take k text) ≡ trim_end (take (n - 1) text)) e (rw t (trim_end_push (take (n - 1) text) (get_or text (n - 1) 0) ∙ rw h refl))

pub trim_end_at : (text : List ℕ) (n : ℕ) → 0 < n → n ≤ length text → is_blank (get_or text (n - 1) 0) ≡ false → trim_end (take n text) ≡ take n text
trim_end_at text n p l h =
    let e : suc (n - 1) ≡ n = omega arith in
    let t = take-suc text (n - 1) 0 (omega arith) in
    subst (λ (k : ℕ). trim_end (take k text) ≡ take k text) e (rw t (trim_end_push (take (n - 1) text) (get_or text (n - 1) 0) ∙ rw h refl))

-- no colon, or the first one
no_colon : (l : List ℕ) → ((i : ℕ) → i < length l → get_or l i 0 ≢ 58) → from_colon l ≡ []
no_colon [] h = refl
no_colon (c ∷ cs) h =
    let ne : (c == 58) ≡ false = ne_eqb c 58 (h 0 (omega arith)) in
    rw ne (no_colon cs (λ i l. h (suc i) (omega arith)))

colon_after : (a b : List ℕ) → ((i : ℕ) → i < length a → get_or a i 0 ≢ 58) → (a ≡ before_colon (a ++ 58 ∷ b)) × (from_colon (a ++ 58 ∷ b) ≡ 58 ∷ b)
colon_after [] b h = (refl, refl)
colon_after (c ∷ cs) b h =
    let ne : (c == 58) ≡ false = ne_eqb c 58 (h 0 (omega arith)) in
    let r = colon_after cs b (λ i l. h (suc i) (omega arith)) in
    (rw ne (ap (λ l. c ∷ l) r.0), rw ne r.1)

pub split_is : (l : List ℕ) (r : Option (Bor (List ℕ) × Bor (List ℕ))) → MatchOption r ((i : ℕ) → i < length l → get_or l i 0 ≢ 58) (λ x. (l ≡ x.0.now ++ (58 ∷ x.1.now)) × ((i : ℕ) → i < length x.0.now → get_or x.0.now i 0 ≢ 58)) → MatchOption r (from_colon l ≡ []) (λ p. (p.0.now ≡ before_colon l) × (from_colon l ≡ 58 ∷ p.1.now))
split_is l None h = no_colon l h
split_is l (Some x) h = let r = colon_after x.0.now x.1.now h.1 in (r.0 ∙ ap before_colon (sym h.0), ap from_colon h.0 ∙ r.1)

pub bare_one_line : (l : List ℕ) → list_any (λ c. c == 10) (bare l) ≡ false
bare_one_line [] = refl
bare_one_line (c ∷ cs) = by_test (c == 10) refl (bare_one_line cs)
  where
    by_test : (b : Bool) → (c == 10) ≡ b → list_any (λ c. c == 10) (bare cs) ≡ false → list_any (λ c. c == 10) (cond b [] (c ∷ bare cs)) ≡ false
    by_test true h more = refl
    by_test false h more = rw h more

-- the tests of bytes come before the shape
pub not_utf8 : (line : List ℕ) → has_return line ≡ false → (IsUtf8 line → ⊥) → line_of line ≡ Err NotUtf8
unfolding line_of
not_utf8 line r u = let no : is_utf8 line ≡ false = false_from_ne_true (is_utf8 line) (λ h. u (IsUtf8-from_is_utf8 line h)) in rw (r, no) refl

pub plain_shape : (line : List ℕ) → has_return line ≡ false → IsUtf8 line → line_of line ≡ shape_of line
unfolding line_of
plain_shape line r u = let yes : is_utf8 line ≡ true = is_utf8-from_IsUtf8 line u in rw (r, yes) refl
