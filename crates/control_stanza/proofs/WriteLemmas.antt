-- The text of a stanza spells it.
use Rattle.std.proofs.Common.{◌≡◌, ◌≢◌, ℕ, suc, zero, ◌+◌, ◌<◌, ◌≤◌, Bool, true, false, cond, not, List, [], ◌∷◌, ◌++◌, length, map, get_or, refl, sym, ap, ◌∙◌, subst, arith, append_assoc, append-nil, Option, Some}
use Rattle.std.specs.Bool.{◌==◌}
use Rattle.std.specs.List.{list_all}
use Rattle.std.specs.Str.{is_utf8, IsUtf8, IsAscii}
use Rattle.std.proofs.lemmas.Bool.{or_parts, and_parts, not-true, true≢false}
use Rattle.std.proofs.lemmas.Bool.Decides.{nat_tests}
use Rattle.std.proofs.lemmas.List.{length-append, map-append}
use Rattle.std.proofs.Math.Seq.{get_or-append_seam, take-append_seam, drop-append-add}
use Rattle.std.proofs.lemmas.Str.{IsUtf8-append, IsUtf8-from_ascii, is_utf8-from_IsUtf8, IsUtf8-from_is_utf8, IsAscii-append, IsUtf8-take, IsUtf8-drop, IsCharBoundary-before_ascii, IsCharBoundary-after_ascii}
use Rattle.control_stanza.specs.declared.stanza.Field.{Field}
use Rattle.control_stanza.specs.Lines.{begun, lines_of, bare, bytes_in, starts_blank, ends_blank, is_blank, has_return, has_line_end, is_name_byte, is_first_byte, is_field_name}
use Rattle.control_stanza.specs.Fields.{are_distinct, value_lines, is_first_line, is_further_line, are_value_lines, is_value, is_field, is_stanza}
use Rattle.control_stanza.specs.Spelled.{AllBlank, IsPlain, SpellsMore, SpellsField, Spells, IsDistinct, Stanzas, within}
use Rattle.control_stanza.specs.Written.{gap, field_text, stanza_text}
use Rattle.control_stanza.proofs.FieldLemmas.{any_parts, any_join}

-- ---- the lines of a text that ends with a line end
begun_append : (c : ℕ) (ls ms : List (List ℕ)) → (ls ≡ [] → ⊥) → begun c (ls ++ ms) ≡ begun c ls ++ ms
begun_append c [] ms h = absurd (h refl)
begun_append c (l ∷ ls) ms h = refl

some_lines : (t : List ℕ) → lines_of (t ++ 10 ∷ []) ≡ [] → ⊥
some_lines [] h = cc
some_lines (c ∷ cs) h = by_test (c == 10) h
  where
    of_begun : (ls : List (List ℕ)) → begun c ls ≡ [] → ⊥
    of_begun [] h = cc
    of_begun (l ∷ ls) h = cc

    by_test : (b : Bool) → cond b ((10 ∷ []) ∷ lines_of (cs ++ 10 ∷ [])) (begun c (lines_of (cs ++ 10 ∷ []))) ≡ [] → ⊥
    by_test true h = cc
    by_test false h = of_begun (lines_of (cs ++ 10 ∷ [])) h

pub lines_append : (t rest : List ℕ) → lines_of (t ++ 10 ∷ rest) ≡ lines_of (t ++ 10 ∷ []) ++ lines_of rest
lines_append [] rest = refl
lines_append (c ∷ cs) rest = by_test (c == 10) (lines_append cs rest)
  where
    by_test : (b : Bool) → lines_of (cs ++ 10 ∷ rest) ≡ lines_of (cs ++ 10 ∷ []) ++ lines_of rest → cond b ((10 ∷ []) ∷ lines_of (cs ++ 10 ∷ rest)) (begun c (lines_of (cs ++ 10 ∷ rest))) ≡ cond b ((10 ∷ []) ∷ lines_of (cs ++ 10 ∷ [])) (begun c (lines_of (cs ++ 10 ∷ []))) ++ lines_of rest
    by_test true e = ap (λ l. (10 ∷ []) ∷ l) e
    by_test false e = ap (begun c) e ∙ begun_append c (lines_of (cs ++ 10 ∷ [])) (lines_of rest) (some_lines cs)

bare_begun : (c : ℕ) (ls : List (List ℕ)) → (c == 10) ≡ false → map bare (begun c ls) ≡ begun c (map bare ls)
bare_begun c [] h = rw h refl
bare_begun c (l ∷ ls) h = rw h refl

lines_bare : (t : List ℕ) → map bare (lines_of (t ++ 10 ∷ [])) ≡ value_lines t
lines_bare [] = refl
lines_bare (c ∷ cs) = by_test (c == 10) refl (lines_bare cs)
  where
    by_test : (b : Bool) → (c == 10) ≡ b → map bare (lines_of (cs ++ 10 ∷ [])) ≡ value_lines cs → map bare (cond b ((10 ∷ []) ∷ lines_of (cs ++ 10 ∷ [])) (begun c (lines_of (cs ++ 10 ∷ [])))) ≡ cond b ([] ∷ value_lines cs) (begun c (value_lines cs))
    by_test true h e = ap (λ l. [] ∷ l) e
    by_test false h e = bare_begun c (lines_of (cs ++ 10 ∷ [])) h ∙ ap (begun c) e

bytes_begun : (c : ℕ) (ls : List (List ℕ)) → bytes_in (begun c ls) ≡ suc (bytes_in ls)
bytes_begun c [] = omega arith
bytes_begun c (l ∷ ls) = omega arith

pub bytes_lines : (t : List ℕ) → bytes_in (lines_of t) ≡ length t
bytes_lines [] = refl
bytes_lines (c ∷ cs) = by_test (c == 10) (bytes_lines cs)
  where
    by_test : (b : Bool) → bytes_in (lines_of cs) ≡ length cs → bytes_in (cond b ((10 ∷ []) ∷ lines_of cs) (begun c (lines_of cs))) ≡ suc (length cs)
    by_test true e = omega (arith, e)
    by_test false e = bytes_begun c (lines_of cs) ∙ ap suc e

-- ---- the lines of a value
pub joined : List (List ℕ) → List ℕ
joined [] = []
joined (l ∷ ls) = 10 ∷ (l ++ joined ls)

-- a value is its first line and its further lines
pub record Cut (v : List ℕ) : Type 0 where
  pub first : List ℕ
  pub more : List (List ℕ)
  pub lines_are : value_lines v ≡ first ∷ more
  pub is : v ≡ first ++ joined more

cut_of : (v : List ℕ) → Cut v
unfolding joined
cut_of [] = record { first = []; more = []; lines_are = refl; is = refl }
cut_of (c ∷ cs) = by_test (c == 10) refl (cut_of cs)
  where
    ten : (c : ℕ) → (c == 10) ≡ true → c ≡ 10
    ten c h = grind (arith, nat_tests)

    by_test : (b : Bool) → (c == 10) ≡ b → Cut cs → Cut (c ∷ cs)
    by_test true h k = record { first = []; more = k.first ∷ k.more; lines_are = rw h (ap (λ l. [] ∷ l) k.lines_are); is = (λ i. ten c h i ∷ k.is i) }
    by_test false h k = record { first = c ∷ k.first; more = k.more; lines_are = rw h (ap (begun c) k.lines_are); is = ap (λ l. c ∷ l) k.is }

-- bytes in front of the first line
prefixed : (a t first : List ℕ) (more : List (List ℕ)) → has_line_end a ≡ false → value_lines t ≡ first ∷ more → value_lines (a ++ t) ≡ (a ++ first) ∷ more
prefixed [] t first more h e = e
prefixed (c ∷ cs) t first more h e =
    let p = or_parts (c == 10) (has_line_end cs) h in
    rw p.0 (ap (begun c) (prefixed cs t first more p.1 e))

-- ---- bytes
utf8_split : (a b : List ℕ) → IsUtf8 (a ++ 10 ∷ b) → IsUtf8 a × IsUtf8 b
utf8_split a b u =
    let text = a ++ 10 ∷ b in
    let at : get_or text (length a) 0 ≡ 10 = get_or-append_seam a 10 b 0 in
    let inside : length a < length text = omega (arith, length-append a (10 ∷ b)) in
    let small : get_or text (length a) 0 < 128 = omega (arith, at) in (
      subst IsUtf8 (take-append_seam a (10 ∷ b)) (IsUtf8-take text (length a) u (IsCharBoundary-before_ascii text (length a) inside small)),
      subst IsUtf8 (drop-append-add a (10 ∷ b) 1) (IsUtf8-drop text (length a + 1) u (IsCharBoundary-after_ascii text (length a) u inside small)),
    )

-- the lines of a text are plain where the text is
AllPlain : List (List ℕ) → Type 0
AllPlain [] = Unit {0}
AllPlain (l ∷ ls) = IsPlain l × AllPlain ls

pieces_plain : (first : List ℕ) (more : List (List ℕ)) → IsUtf8 (first ++ joined more) → has_return (first ++ joined more) ≡ false → IsPlain first × AllPlain more
unfolding AllPlain joined
pieces_plain first [] u r = (record { no_return = (any_parts (λ c. c == 13) first [] r).0; utf8 = is_utf8-from_IsUtf8 first (subst IsUtf8 (append-nil first) u) }, tt)
pieces_plain first (m ∷ ms) u r =
    let s = utf8_split first (m ++ joined ms) u in
    let p = any_parts (λ c. c == 13) first (10 ∷ (m ++ joined ms)) r in
    let rest = pieces_plain m ms s.1 p.1 in
    (record { no_return = p.0; utf8 = is_utf8-from_IsUtf8 first s.0 }, rest)

name_byte_is : (c : ℕ) → is_name_byte c ≡ true → ((c == 13) ≡ false) × ((c == 10) ≡ false) × (c < 128)
unfolding is_name_byte
name_byte_is c h = (grind (arith, nat_tests), grind (arith, nat_tests), grind (arith, nat_tests))

pub record IsNameText (name : List ℕ) : Type 0 where
  pub no_return : has_return name ≡ false
  pub no_end : has_line_end name ≡ false
  pub ascii : IsAscii name

name_bytes_are : (name : List ℕ) → list_all is_name_byte name ≡ true → IsNameText name
name_bytes_are [] h = record { no_return = refl; no_end = refl; ascii = λ i. omega arith }
name_bytes_are (c ∷ cs) h =
    let p = and_parts (is_name_byte c) (list_all is_name_byte cs) h in
    let b = name_byte_is c p.0 in
    let r = name_bytes_are cs p.1 in
    record { no_return = rw b.0 r.no_return; no_end = rw b.1 r.no_end; ascii = small c cs b.2 r.ascii }
  where
    small : (c : ℕ) (cs : List ℕ) → c < 128 → IsAscii cs → IsAscii (c ∷ cs)
    small c cs l h zero = l
    small c cs l h (suc i) = h i

name_is : (name : List ℕ) → is_field_name name ≡ true → IsNameText name
unfolding is_field_name
name_is [] h = absurd (true≢false (sym h))
name_is (c ∷ cs) h = name_bytes_are (c ∷ cs) (and_parts (is_first_byte c) (list_all is_name_byte (c ∷ cs)) h).1

-- the gap is one blank or none
pub record IsGap (g : List ℕ) : Type 0 where
  pub blank : AllBlank g
  pub no_return : has_return g ≡ false
  pub no_end : has_line_end g ≡ false
  pub ascii : IsAscii g

gap_is : (v : List ℕ) → IsGap (gap v)
unfolding is_blank
gap_is [] = record { blank = refl; no_return = refl; no_end = refl; ascii = λ i. omega arith }
gap_is (c ∷ cs) = by_test (c == 10)
  where
    space : IsAscii (32 ∷ [])
    space zero = omega arith
    space (suc i) = omega arith

    by_test : (b : Bool) → IsGap (cond b [] (32 ∷ []))
    by_test true = record { blank = refl; no_return = refl; no_end = refl; ascii = λ i. omega arith }
    by_test false = record { blank = refl; no_return = refl; no_end = refl; ascii = space }

-- ---- a field's text
head_line : Field → List ℕ → List ℕ
head_line f first = f.name ++ 58 ∷ (gap f.value ++ first)

head_plain : (f : Field) (first : List ℕ) → IsNameText f.name → IsPlain first → IsPlain (head_line f first)
unfolding head_line
head_plain f first n p =
    let g = gap_is f.value in
    let front : IsUtf8 (f.name ++ 58 ∷ gap f.value) = IsUtf8-from_ascii _ (IsAscii-append f.name (58 ∷ gap f.value) n.ascii (colon (gap f.value) g.ascii)) in
    let whole : IsUtf8 (f.name ++ 58 ∷ (gap f.value ++ first)) = subst IsUtf8 (append_assoc f.name (58 ∷ gap f.value) first) (IsUtf8-append (f.name ++ 58 ∷ gap f.value) first front (IsUtf8-from_is_utf8 first p.utf8)) in
    record {
      no_return = any_join (λ c. c == 13) f.name (58 ∷ (gap f.value ++ first)) n.no_return (any_join (λ c. c == 13) (gap f.value) first g.no_return p.no_return);
      utf8 = is_utf8-from_IsUtf8 _ whole;
    }
  where
    colon : (g : List ℕ) → IsAscii g → IsAscii (58 ∷ g)
    colon g h zero = omega arith
    colon g h (suc i) = h i

spells_more : (more : List (List ℕ)) → AllPlain more → list_all is_further_line more ≡ true → SpellsMore more (joined more)
unfolding AllPlain joined
spells_more [] p h = refl
spells_more (m ∷ ms) p h =
    let q = and_parts (is_further_line m) (list_all is_further_line ms) h in
    let r = and_parts (starts_blank m) (not (ends_blank m)) q.0 in
    (m, joined ms, refl, record { after = []; is = sym (append-nil m); blank_after = refl; starts = r.0; ends = not-true _ r.1; plain = p.0 }, spells_more ms p.1 q.1)

field_lines : (f : Field) → IsNameText f.name → (k : Cut f.value) → map bare (lines_of (field_text f)) ≡ head_line f k.first ∷ k.more
unfolding field_text head_line
field_lines f n k =
    let g = gap_is f.value in
    let t = f.name ++ 58 ∷ (gap f.value ++ f.value) in
    lines_bare t
    ∙ prefixed f.name (58 ∷ (gap f.value ++ f.value)) (58 ∷ (gap f.value ++ k.first)) k.more n.no_end (ap (begun 58) (prefixed (gap f.value) f.value k.first k.more g.no_end k.lines_are))

pub spells_field : (f : Field) → is_field f ≡ true → SpellsField (map bare (lines_of (field_text f))) f
unfolding head_line
spells_field f h =
    let p = and_parts (is_field_name f.name) (is_value f.value) h in
    let v = and_parts _ (is_utf8 f.value) p.1 in
    let w = and_parts (are_value_lines (value_lines f.value)) (not (has_return f.value)) v.0 in
    let k = cut_of f.value in
    let lines = and_parts (is_first_line k.first) (list_all is_further_line k.more) (ap are_value_lines (sym k.lines_are) ∙ w.0) in
    let ends = and_parts (not (starts_blank k.first)) (not (ends_blank k.first)) lines.0 in
    let n = name_is f.name p.0 in
    let g = gap_is f.value in
    let plain = pieces_plain k.first k.more (subst IsUtf8 k.is (IsUtf8-from_is_utf8 f.value v.1)) (ap has_return (sym k.is) ∙ not-true _ w.1) in
    record {
      line = head_line f k.first;
      others = k.more;
      first = k.first;
      rest = joined k.more;
      lines_are = field_lines f n k;
      value_is = k.is;
      begins = record {
        before = gap f.value;
        after = [];
        is = ap (λ l. f.name ++ 58 ∷ (gap f.value ++ l)) (sym (append-nil k.first));
        blank_before = g.blank;
        blank_after = refl;
        starts = not-true _ ends.0;
        ends = not-true _ ends.1;
        name_is = p.0;
        plain = head_plain f k.first n plain.0;
      };
      goes_on = spells_more k.more plain.1 lines.1;
    }

-- ---- all fields
fields_spelled : (fields : List Field) → list_all is_field fields ≡ true → Spells (map bare (lines_of (stanza_text fields))) fields
unfolding field_text
fields_spelled [] h = refl
fields_spelled (f ∷ fs) h =
    let p = and_parts (is_field f) (list_all is_field fs) h in
    let t = f.name ++ 58 ∷ (gap f.value ++ f.value) in (
      map bare (lines_of (field_text f)),
      map bare (lines_of (stanza_text fs)),
      ap (λ l. map bare (lines_of l)) (append_assoc t (10 ∷ []) (stanza_text fs)) ∙ ap (map bare) (lines_append t (stanza_text fs)) ∙ map-append bare (lines_of (t ++ 10 ∷ [])) (lines_of (stanza_text fs)),
      spells_field f p.0,
      fields_spelled fs p.1,
    )

pub distinct : (fields : List Field) → are_distinct fields ≡ true → IsDistinct fields
distinct [] h = tt
distinct (f ∷ fs) h = let p = and_parts _ (are_distinct fs) h in (not-true _ p.0, distinct fs p.1)

pub text_spells : (fields : List Field) → is_stanza fields ≡ true → Spells (map bare (lines_of (stanza_text fields))) fields
unfolding is_stanza
text_spells fields h = fields_spelled fields (and_parts (list_all is_field fields) (are_distinct fields) h).0

pub some_text : (fields : List Field) → fields ≢ [] → 0 < length (lines_of (stanza_text fields))
unfolding field_text
some_text [] h = absurd (h refl)
some_text (f ∷ fs) h =
    let t = f.name ++ 58 ∷ (gap f.value ++ f.value) in
    let e : lines_of (stanza_text (f ∷ fs)) ≡ lines_of (t ++ 10 ∷ []) ++ lines_of (stanza_text fs) = ap lines_of (append_assoc t (10 ∷ []) (stanza_text fs)) ∙ lines_append t (stanza_text fs) in
    omega (arith, ap length e, length-append (lines_of (t ++ 10 ∷ [])) (lines_of (stanza_text fs)), some_of (lines_of (t ++ 10 ∷ [])) (some_lines t))
  where
    some_of : (ls : List (List ℕ)) → (ls ≡ [] → ⊥) → 0 < length ls
    some_of [] h = absurd (h refl)
    some_of (l ∷ ls) h = omega arith

-- the text is that of the stanza alone
pub text_reads : (bound : Option ℕ) (fields : List Field) → is_stanza fields ≡ true → fields ≢ [] → within bound (length (stanza_text fields)) ≡ true → Stanzas bound 1 (lines_of (stanza_text fields)) ((1, fields) ∷ [])
unfolding is_stanza
text_reads bound fields h some small = record {
  parting = [];
  body = lines_of (stanza_text fields);
  tail = [];
  lines_are = sym (append-nil (lines_of (stanza_text fields)));
  separators = tt;
  number = refl;
  spells = text_spells fields h;
  distinct = distinct fields (and_parts (list_all is_field fields) (are_distinct fields) h).1;
  some = some_text fields some;
  small = ap (within bound) (bytes_lines (stanza_text fields)) ∙ small;
  parted = tt;
  behind = tt;
}

pub few_enough : (most n : ℕ) → n ≤ most → within (Some most) n ≡ true
few_enough most n h = grind (arith, nat_tests)
