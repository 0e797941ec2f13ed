-- Texts of several stanzas are made of them.
use Rattle.std.proofs.Common.{◌≡◌, ℕ, ◌+◌, true, List, [], ◌∷◌, ◌++◌, length, refl, sym, ap, ◌∙◌, subst, arith, append_assoc, append-nil, Option, Ok}
use Rattle.std.specs.List.{AllByRecursion}
use Rattle.std.proofs.lemmas.Bool.{and_parts}
use Rattle.std.proofs.lemmas.Str.{IsUtf8-nil, is_utf8-from_IsUtf8}
use Rattle.std.specs.List.{list_all}
use Rattle.control_stanza.specs.declared.stanza.Field.{Field}
use Rattle.control_stanza.specs.Lines.{lines_of, bare}
use Rattle.control_stanza.specs.Fields.{is_field, are_distinct, is_stanza}
use Rattle.control_stanza.specs.Reading.{stanzas_of}
use Rattle.control_stanza.specs.Spelled.{IsSeparator, Stanzas, within}
use Rattle.control_stanza.specs.Written.{gap, field_text, stanza_text}
use Rattle.control_stanza.specs.Series.{series_text, lines_with_end, numbered_from, number_behind, IsWritten}
use Rattle.control_stanza.proofs.Only.{only}
use Rattle.control_stanza.proofs.WriteLemmas.{lines_append, bytes_lines, text_spells, distinct, some_text}

-- what stands behind a stanza's text begins with a new line
lines_behind : (fields : List Field) (rest : List ℕ) → lines_of (stanza_text fields ++ rest) ≡ lines_of (stanza_text fields) ++ lines_of rest
unfolding field_text
lines_behind [] rest = refl
lines_behind (f ∷ fs) rest =
    let t = f.name ++ 58 ∷ (gap f.value ++ f.value) in
    let whole : (behind : List ℕ) → lines_of (t ++ 10 ∷ [] ++ behind) ≡ lines_of (t ++ 10 ∷ []) ++ lines_of behind = λ behind. ap lines_of (append_assoc t (10 ∷ []) behind) ∙ lines_append t behind in
    ap lines_of (append_assoc (t ++ 10 ∷ []) (stanza_text fs) rest) ∙ whole (stanza_text fs ++ rest) ∙ ap (λ (ls : List (List ℕ)). lines_of (t ++ 10 ∷ []) ++ ls) (lines_behind fs rest) ∙ sym (append_assoc (lines_of (t ++ 10 ∷ [])) (lines_of (stanza_text fs)) (lines_of rest)) ∙ ap (λ (ls : List (List ℕ)). ls ++ lines_of rest) (sym (whole (stanza_text fs)))

empty_line : IsSeparator (bare (10 ∷ []))
empty_line = record { blank = refl; plain = record { no_return = refl; utf8 = is_utf8-from_IsUtf8 [] IsUtf8-nil } }

-- a separator in front changes nothing but the numbers
after_empty : (bound : Option ℕ) (n : ℕ) (lines : List (List ℕ)) (stanzas : List (ℕ × List Field)) → Stanzas bound (n + 1) lines stanzas → Stanzas bound n ((10 ∷ []) ∷ lines) stanzas
after_empty bound n lines [] h = (empty_line, h)
after_empty bound n lines (s ∷ stanzas) h = record {
  parting = (10 ∷ []) ∷ h.parting;
  body = h.body;
  tail = h.tail;
  lines_are = ap (λ (ls : List (List ℕ)). (10 ∷ []) ∷ ls) h.lines_are;
  separators = (empty_line, h.separators);
  number = omega (arith, h.number);
  spells = h.spells;
  distinct = h.distinct;
  some = h.some;
  small = h.small;
  parted = h.parted;
  behind = h.behind;
}

distinct_fields : (fields : List Field) → is_stanza fields ≡ true → are_distinct fields ≡ true
unfolding is_stanza
distinct_fields fields h = (and_parts (list_all is_field fields) (are_distinct fields) h).1

-- one stanza and the empty line behind it
one_more : (bound : Option ℕ) (n : ℕ) (fields : List Field) (text : List ℕ) (behind : List (ℕ × List Field)) → IsWritten bound fields → Stanzas bound (n + lines_with_end fields) (lines_of text) behind → Stanzas bound n (lines_of (stanza_text fields ++ 10 ∷ text)) ((n, fields) ∷ behind)
one_more bound n fields text behind w h = record {
  parting = [];
  body = lines_of (stanza_text fields);
  tail = (10 ∷ []) ∷ lines_of text;
  lines_are = lines_behind fields (10 ∷ text);
  separators = tt;
  number = omega arith;
  spells = text_spells fields w.stanza;
  distinct = distinct fields (distinct_fields fields w.stanza);
  some = some_text fields w.some;
  small = ap (within bound) (bytes_lines (stanza_text fields)) ∙ w.small;
  parted = empty_line;
  behind = after_empty bound (n + length (lines_of (stanza_text fields))) (lines_of text) behind (let e : n + lines_with_end fields ≡ n + length (lines_of (stanza_text fields)) + 1 = omega arith in subst (λ k. Stanzas bound k (lines_of text) behind) e h);
}

pub followed : (bound : Option ℕ) (n : ℕ) (stanzas : List (List Field)) (text : List ℕ) (behind : List (ℕ × List Field)) → AllByRecursion (IsWritten bound) stanzas → Stanzas bound (number_behind n stanzas) (lines_of text) behind → Stanzas bound n (lines_of (series_text stanzas ++ text)) (numbered_from n stanzas ++ behind)
followed bound n [] text behind w h = h
followed bound n (s ∷ stanzas) text behind w h =
    let e : series_text (s ∷ stanzas) ++ text ≡ stanza_text s ++ 10 ∷ (series_text stanzas ++ text) = append_assoc (stanza_text s ++ 10 ∷ []) (series_text stanzas) text ∙ append_assoc (stanza_text s) (10 ∷ []) (series_text stanzas ++ text) in
    subst (λ (t : List ℕ). Stanzas bound n (lines_of t) ((n, s) ∷ (numbered_from (n + lines_with_end s) stanzas ++ behind))) (sym e) (one_more bound n s (series_text stanzas ++ text) (numbered_from (n + lines_with_end s) stanzas ++ behind) w.0 (followed bound (n + lines_with_end s) stanzas text behind w.1 h))

pub whole : (bound : Option ℕ) (stanzas : List (List Field)) → AllByRecursion (IsWritten bound) stanzas → Stanzas bound 1 (lines_of (series_text stanzas)) (numbered_from 1 stanzas)
whole bound stanzas w =
    subst (λ (t : List ℕ). Stanzas bound 1 (lines_of t) (numbered_from 1 stanzas)) (append-nil (series_text stanzas)) (subst (λ (out : List (ℕ × List Field)). Stanzas bound 1 (lines_of (series_text stanzas ++ [])) out) (append-nil (numbered_from 1 stanzas)) (followed bound 1 stanzas [] [] w tt))

pub read : (bound : Option ℕ) (stanzas : List (List Field)) → AllByRecursion (IsWritten bound) stanzas → stanzas_of bound (series_text stanzas) ≡ Ok (numbered_from 1 stanzas)
unfolding stanzas_of
read bound stanzas w = only bound (numbered_from 1 stanzas) 1 (lines_of (series_text stanzas)) (whole bound stanzas w)

-- a text of one stanza, from any line number on
one_alone : (bound : Option ℕ) (n : ℕ) (fields : List Field) → IsWritten bound fields → Stanzas bound n (lines_of (stanza_text fields)) ((n, fields) ∷ [])
one_alone bound n fields w = record {
  parting = [];
  body = lines_of (stanza_text fields);
  tail = [];
  lines_are = sym (append-nil (lines_of (stanza_text fields)));
  separators = tt;
  number = omega arith;
  spells = text_spells fields w.stanza;
  distinct = distinct fields (distinct_fields fields w.stanza);
  some = some_text fields w.some;
  small = ap (within bound) (bytes_lines (stanza_text fields)) ∙ w.small;
  parted = tt;
  behind = tt;
}

numbered-append : (n : ℕ) (stanzas : List (List Field)) (last : List Field) → numbered_from n (stanzas ++ last ∷ []) ≡ numbered_from n stanzas ++ (number_behind n stanzas, last) ∷ []
numbered-append n [] last = refl
numbered-append n (s ∷ stanzas) last = ap (λ (out : List (ℕ × List Field)). (n, s) ∷ out) (numbered-append (n + lines_with_end s) stanzas last)

pub unended : (bound : Option ℕ) (stanzas : List (List Field)) (last : List Field) → AllByRecursion (IsWritten bound) stanzas → IsWritten bound last → Stanzas bound 1 (lines_of (series_text stanzas ++ stanza_text last)) (numbered_from 1 (stanzas ++ last ∷ []))
unended bound stanzas last w h =
    subst (λ (out : List (ℕ × List Field)). Stanzas bound 1 (lines_of (series_text stanzas ++ stanza_text last)) out) (sym (numbered-append 1 stanzas last)) (followed bound 1 stanzas (stanza_text last) ((number_behind 1 stanzas, last) ∷ []) w (one_alone bound (number_behind 1 stanzas) last h))
