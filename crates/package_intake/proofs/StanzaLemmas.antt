-- What is read of a text of stanzas are stanzas.
use Rattle.std.proofs.Common.{◌≡◌, ℕ, zero, suc, ◌+◌, ◌-◌, ◌<◌, Bool, true, false, not, List, [], ◌∷◌, ◌++◌, map, length, append-nil, take, drop, Option, refl, sym, ap, ◌∙◌, subst, arith, length-append, append_assoc, ◌==◌, nat_lt, ltb-true}
use Rattle.std.proofs.lemmas.Bool.{and_parts, and_from, or_parts, not_from_false}
use Rattle.std.proofs.lemmas.Str.{IsUtf8-between, IsUtf8-from_ascii, IsUtf8-from_is_utf8, is_utf8-from_IsUtf8, IsCharBoundary-from_take, IsCharBoundary-at_seam}
use Rattle.std.specs.Prelude.{nat_le}
use Rattle.std.specs.List.{list_all, list_any, AllByRecursion}
use Rattle.std.specs.Str.{IsUtf8, IsAscii, is_utf8}
use Rattle.control_stanza.specs.declared.stanza.Field.{Field}
use Rattle.control_stanza.specs.Lines.{bare, is_blank, is_field_name, is_name_byte, has_return, has_line_end}
use Rattle.control_stanza.specs.Fields.{is_value, is_field, are_distinct, is_stanza}
use Rattle.control_stanza.specs.Spelled.{Begins, GoesOn, SpellsMore, SpellsField, Spells, IsDistinct, Stanzas}
use Rattle.control_stanza.proofs.FieldLemmas.{any_parts, value_first, value_more}
use Rattle.control_stanza.proofs.LineLemmas.{blank_small, bare_one_line}

-- ---- parts of a line are UTF-8
ascii_all : (p : ℕ → Bool) → ((c : ℕ) → p c ≡ true → c < 128) → (xs : List ℕ) → list_all p xs ≡ true → IsAscii xs
ascii_all p small [] h zero = omega arith
ascii_all p small [] h (suc i) = omega arith
ascii_all p small (x ∷ xs) h zero = small x (and_parts (p x) (list_all p xs) h).0
ascii_all p small (x ∷ xs) h (suc i) = ascii_all p small xs (and_parts (p x) (list_all p xs) h).1 i

ascii_append : (xs ys : List ℕ) → IsAscii xs → IsAscii ys → IsAscii (xs ++ ys)
ascii_append [] ys a b i = b i
ascii_append (x ∷ xs) ys a b zero = a zero
ascii_append (x ∷ xs) ys a b (suc i) = ascii_append xs ys (λ k. a (suc k)) b i

ascii_cons : (x : ℕ) (xs : List ℕ) → x < 128 → IsAscii xs → IsAscii (x ∷ xs)
ascii_cons x xs l a zero = l
ascii_cons x xs l a (suc i) = a i

name_byte_small : (c : ℕ) → is_name_byte c ≡ true → c < 128
unfolding is_name_byte
name_byte_small c h =
    let a = and_parts _ (not (c == 58)) h in
    let b = and_parts (nat_le 33 c) (nat_lt c 127) a.0 in
    let small : c < 127 = ltb-true c 127 b.1 in
    omega arith

name_ascii : (name : List ℕ) → is_field_name name ≡ true → IsAscii name
unfolding is_field_name
name_ascii [] h = none
  where
    none : IsAscii []
    none zero = omega arith
    none (suc i) = omega arith
name_ascii (c ∷ cs) h = ascii_all is_name_byte name_byte_small (c ∷ cs) (and_parts _ (list_all is_name_byte (c ∷ cs)) h).1

front_is : (xs ys : List ℕ) → take (length xs) (xs ++ ys) ≡ xs
front_is [] ys = refl
front_is (x ∷ xs) ys = ap (λ l. x ∷ l) (front_is xs ys)

behind_is : (xs ys : List ℕ) → drop (length xs) (xs ++ ys) ≡ ys
behind_is [] ys = refl
behind_is (x ∷ xs) ys = behind_is xs ys

-- between ASCII in front and behind
between : (line pre value after : List ℕ) → line ≡ pre ++ (value ++ after) → IsAscii pre → IsAscii after → IsUtf8 line → IsUtf8 value
between line pre value after e a b u =
    let front : take (length pre) line ≡ pre = ap (take (length pre)) e ∙ front_is pre (value ++ after) in
    let size : length line ≡ length pre + length (value ++ after) = ap length e ∙ length-append pre (value ++ after) in
    let more : length (value ++ after) ≡ length value + length after = length-append value after in
    let start = IsCharBoundary-from_take line (length pre) u (omega (arith, size)) (subst IsUtf8 (sym front) (IsUtf8-from_ascii pre a)) in
    let seam = IsCharBoundary-at_seam line (pre ++ value) after (e ∙ sym (append_assoc pre value after)) (IsUtf8-from_ascii after b) in
    let cut = IsUtf8-between line (length pre) (length (pre ++ value)) u (omega (arith, length-append pre value)) start seam in
    let count : length (pre ++ value) - length pre ≡ length value = omega (arith, length-append pre value) in
    subst IsUtf8 ((λ i. take (count i) (drop (length pre) (e i))) ∙ ap (take (length value)) (behind_is pre (value ++ after)) ∙ front_is value after) cut

value_utf8 : (line name value : List ℕ) → Begins line name value → is_utf8 value ≡ true
value_utf8 line name value b =
    let pre : List ℕ = name ++ 58 ∷ b.before in
    let is : line ≡ pre ++ (value ++ b.after) = b.is ∙ sym (append_assoc name (58 ∷ b.before) (value ++ b.after)) in
    is_utf8-from_IsUtf8 value (between line pre value b.after is (ascii_append name (58 ∷ b.before) (name_ascii name b.name_is) (ascii_cons 58 b.before (omega arith) (ascii_all is_blank blank_small b.before b.blank_before))) (ascii_all is_blank blank_small b.after b.blank_after) (IsUtf8-from_is_utf8 line b.plain.utf8))

more_utf8 : (line more : List ℕ) → GoesOn line more → is_utf8 more ≡ true
more_utf8 line more g = is_utf8-from_IsUtf8 more (between line [] more g.after g.is none (ascii_all is_blank blank_small g.after g.blank_after) (IsUtf8-from_is_utf8 line g.plain.utf8))
  where
    none : IsAscii []
    none zero = omega arith
    none (suc i) = omega arith

-- ---- a field that is spelled
abbrev AreBare : List (List ℕ) → Type 0
AreBare lines = AllByRecursion (λ line. has_line_end line ≡ false) lines

bare_front : (a b : List (List ℕ)) → AreBare (a ++ b) → AreBare a
bare_front [] b h = tt
bare_front (x ∷ a) b h = (h.0, bare_front a b h.1)

bare_back : (a b : List (List ℕ)) → AreBare (a ++ b) → AreBare b
bare_back [] b h = h
bare_back (x ∷ a) b h = bare_back a b h.1

are_bare : (lines : List (List ℕ)) → AreBare (map bare lines)
are_bare [] = tt
are_bare (line ∷ lines) = (bare_one_line line, are_bare lines)

first_value : (line name value : List ℕ) → has_line_end line ≡ false → Begins line name value → is_value value ≡ true
first_value line name value e b =
    let part : (p : ℕ → Bool) → list_any p line ≡ false → list_any p value ≡ false = λ p free. (any_parts p value b.after (any_parts p b.before (value ++ b.after) (or_parts (p 58) _ (any_parts p name (58 ∷ (b.before ++ (value ++ b.after))) (ap (list_any p) (sym b.is) ∙ free)).1).1).1).0 in
    value_first value b.starts b.ends (part (λ c. c == 13) b.plain.no_return) (part (λ c. c == 10) e) (value_utf8 line name value b)

more_value : (value line more : List ℕ) → has_line_end line ≡ false → GoesOn line more → is_value value ≡ true → is_value (value ++ 10 ∷ more) ≡ true
more_value value line more e g v =
    value_more value more v (and_from _ _ g.starts (not_from_false _ g.ends)) (any_parts (λ c. c == 13) more g.after (ap has_return (sym g.is) ∙ g.plain.no_return)).0 (any_parts (λ c. c == 10) more g.after (ap has_line_end (sym g.is) ∙ e)).0 (more_utf8 line more g)

whole_value : (value : List ℕ) (lines : List (List ℕ)) (rest : List ℕ) → AreBare lines → SpellsMore lines rest → is_value value ≡ true → is_value (value ++ rest) ≡ true
whole_value value [] rest b h v = subst (λ (r : List ℕ). is_value (value ++ r) ≡ true) (sym h) (ap is_value (append-nil value) ∙ v)
whole_value value (line ∷ lines) rest b h v =
    let next = more_value value line h.0 b.0 h.3 v in
    let all = whole_value (value ++ 10 ∷ h.0) lines h.1 b.1 h.4 next in
    ap is_value (ap (λ (r : List ℕ). value ++ r) h.2 ∙ sym (append_assoc value (10 ∷ h.0) h.1)) ∙ all

spelled_field : (lines : List (List ℕ)) (field : Field) → AreBare lines → SpellsField lines field → is_field field ≡ true
spelled_field lines field b s =
    let all : AreBare (s.line ∷ s.others) = subst AreBare s.lines_are b in
    and_from _ _ s.begins.name_is (ap is_value s.value_is ∙ whole_value s.first s.others s.rest all.1 s.goes_on (first_value s.line field.name s.first all.0 s.begins))

spelled_fields : (lines : List (List ℕ)) (fields : List Field) → AreBare lines → Spells lines fields → list_all is_field fields ≡ true
spelled_fields lines [] b s = refl
spelled_fields lines (f ∷ fs) b s =
    let all : AreBare (s.0 ++ s.1) = subst AreBare s.2 b in
    and_from _ _ (spelled_field s.0 f (bare_front s.0 s.1 all) s.3) (spelled_fields s.1 fs (bare_back s.0 s.1 all) s.4)

distinct_fields : (fields : List Field) → IsDistinct fields → are_distinct fields ≡ true
distinct_fields [] d = refl
distinct_fields (f ∷ fs) d = and_from _ _ (not_from_false _ d.0) (distinct_fields fs d.1)

abbrev pub AreStanzas : List (ℕ × List Field) → Type 0
AreStanzas out = AllByRecursion (λ s. is_stanza s.1 ≡ true) out

-- the stanzas that a text is made of
pub all_good : (bound : Option ℕ) (n : ℕ) (lines : List (List ℕ)) (out : List (ℕ × List Field)) → Stanzas bound n lines out → AreStanzas out
unfolding is_stanza
all_good bound n lines [] h = tt
all_good bound n lines (s ∷ out) h =
    (and_from _ _ (spelled_fields (map bare h.body) s.1 (are_bare h.body) h.spells) (distinct_fields s.1 h.distinct), all_good bound (s.0 + length h.body) h.tail out h.behind)
