-- A text is cut from the left, one piece after another.
use Rattle.std.proofs.Common.{◌≡◌, ◌≢◌, ℕ, ◌<◌, ◌≤◌, ◌+◌, Bool, true, false, ◌&&◌, cond, ltb, List, [], ◌∷◌, ◌++◌, length, drop, get_or, Option, Some, None, refl, ap, subst, sym, ◌∙◌, arith, inl, inr, ◌⊎◌}
use Rattle.std.specs.List.{prefix_len}
use Rattle.std.specs.Option.{option_and_then}
use Rattle.std.proofs.lemmas.Option.{same_Some}
use Rattle.std.proofs.lemmas.Bool.{cases_lt, and_parts, ltb-true}
use Rattle.std.proofs.lemmas.Bool.Decides.{nat_tests}
use Rattle.std.proofs.lemmas.List.{get_or_past, length-drop, drop-drop}
use Rattle.std.proofs.lemmas.List.Sums.{prefix_len-le-length}
use Rattle.depends_field.specs.declared.phase.Kind.{Kind}
use Rattle.depends_field.specs.Pieces.{is_blank, is_word_byte, operator_len, piece_len, front, behind, inside_after, IsCut}
use Rattle.depends_field.specs.Reading.{Read, start, run, stepped}

pub cut_more : (inside : Bool) (text : List ℕ) (ps : List (List ℕ)) (inside_rest : Bool) (rest : List ℕ) → IsCut inside text ps inside_rest rest → 0 < length rest → IsCut inside text (ps ++ front inside_rest rest ∷ []) (inside_after inside_rest (front inside_rest rest)) (behind inside_rest rest)
cut_more inside text [] inside_rest rest c some = (
  omega (arith, ap length c.1),
  ap (λ m. front m rest) (sym c.0) ∙ ap (front inside) (sym c.1),
  (ap (λ m. inside_after m (front inside_rest rest)) c.0, ap (λ m. behind m text) c.0 ∙ ap (behind inside_rest) c.1),
)
cut_more inside text (p ∷ ps) inside_rest rest c some =
    (c.0, c.1, cut_more (inside_after inside p) (behind inside text) ps inside_rest rest c.2 some)

more_in : (kind : Kind) (ps : List (List ℕ)) (p : List ℕ) (t u : Read) (o : Option Read) → ((v : Read) → run kind v ps ≡ Some t → run kind v (ps ++ p ∷ []) ≡ Some u) → option_and_then (λ v. run kind v ps) o ≡ Some t → option_and_then (λ v. run kind v (ps ++ p ∷ [])) o ≡ Some u
more_in kind ps p t u None more e = cc
more_in kind ps p t u (Some v) more e = more v e

pub run_more : (kind : Kind) (s : Read) (ps : List (List ℕ)) (t u : Read) (p : List ℕ) → run kind s ps ≡ Some t → stepped kind t p ≡ Some u → run kind s (ps ++ p ∷ []) ≡ Some u
run_more kind s [] t u p e h =
    ap (option_and_then (λ w. run kind w [])) (ap (λ x. stepped kind x p) (same_Some s t e) ∙ h)
run_more kind s (q ∷ ps) t u p e h =
    more_in kind ps p t u (stepped kind s q) (λ v r. run_more kind v ps t u p r h) e

-- a piece has a byte at least, and lies in the text

first_passes : (q : ℕ → Bool) (text : List ℕ) → 0 < length text → q (get_or text 0 0) ≡ true → 0 < prefix_len q text
first_passes q [] some h = absurd (omega arith)
first_passes q (b ∷ bs) some h = grind arith

operator_len_cases : (text : List ℕ) → (operator_len text ≤ 1) ⊎ ((operator_len text ≡ 2) × (get_or text 1 0 ≢ 0))
operator_len_cases text = grind (arith, nat_tests)

operator_len_within : (text : List ℕ) → 0 < length text → operator_len text ≤ length text
operator_len_within text some =
    elim (operator_len_cases text) [
      | inl one ↦ omega arith
      | inr two ↦ elim (cases_lt 1 (length text)) [ inl lt ↦ omega (arith, two.0) | inr ge ↦ absurd (two.1 (get_or_past text 1 0 ge)) ]
    ]

len_in : (blank word operator : Bool) (b w o n : ℕ) → 0 < n → (blank ≡ true → (0 < b) × (b ≤ n)) → (word ≡ true → (0 < w) × (w ≤ n)) → (operator ≡ true → (0 < o) × (o ≤ n)) → (0 < cond blank b (cond word w (cond operator o 1))) × (cond blank b (cond word w (cond operator o 1)) ≤ n)
len_in true word operator b w o n some eb ew eo = eb refl
len_in false true operator b w o n some eb ew eo = ew refl
len_in false false true b w o n some eb ew eo = eo refl
len_in false false false b w o n some eb ew eo = (omega arith, omega arith)

pub piece_len_in : (inside : Bool) (text : List ℕ) → 0 < length text → (0 < piece_len inside text) × (piece_len inside text ≤ length text)
unfolding piece_len
piece_len_in inside text some =
    len_in
    (is_blank (get_or text 0 0))
    (is_word_byte inside (get_or text 0 0))
    (inside && ltb 0 (operator_len text))
    (prefix_len is_blank text)
    (prefix_len (is_word_byte inside) text)
    (operator_len text)
    (length text)
    some
    (λ h. (first_passes is_blank text some h, prefix_len-le-length is_blank text))
    (λ h. (first_passes (is_word_byte inside) text some h, prefix_len-le-length (is_word_byte inside) text))
    (λ h. (ltb-true 0 (operator_len text) (and_parts inside (ltb 0 (operator_len text)) h).1, operator_len_within text some))

-- one turn of the loop over the pieces

abbrev ReadTo : Kind → List ℕ → ℕ → Bool → Read → Type 0
ReadTo kind bytes at inside state =
    (done : List (List ℕ)) × IsCut false bytes done inside (drop at bytes) × (run kind start done ≡ Some state) × (at ≤ length bytes)

pub one_piece_on : (kind : Kind) (bytes : List ℕ) (at : ℕ) (inside after : Bool) (rest piece : List ℕ) (state next : Read) → ReadTo kind bytes at inside state → rest ≡ drop at bytes → 0 < length rest → piece ≡ front inside rest → length piece ≡ piece_len inside rest → length piece ≤ length rest → Some next ≡ stepped kind state piece → after ≡ inside_after inside piece → ReadTo kind bytes (at + length piece) after next
one_piece_on kind bytes at inside after rest piece state next so is some front_is len within step turn =
    let fits : at + length piece ≤ length bytes = omega (arith, ap length is, length-drop at bytes, so.3) in
    let whole : piece ≡ front inside (drop at bytes) = front_is ∙ ap (front inside) is in
    let moved : behind inside (drop at bytes) ≡ drop (at + length piece) bytes = drop-drop (piece_len inside (drop at bytes)) at bytes ∙ ap (λ n. drop (at + n) bytes) (ap (piece_len inside) (sym is) ∙ sym len) in
    let cut = cut_more false bytes so.0 inside (drop at bytes) so.1 (omega (arith, ap length is)) in
    let P : List ℕ → Type 0 = λ p. IsCut false bytes (so.0 ++ p ∷ []) (inside_after inside p) (behind inside (drop at bytes)) in
    let named = subst P (sym whole) cut in
    let Q : Bool → Type 0 = λ m. IsCut false bytes (so.0 ++ piece ∷ []) m (behind inside (drop at bytes)) in
    let turned = subst Q (sym turn) named in
    let R : List ℕ → Type 0 = λ r. IsCut false bytes (so.0 ++ piece ∷ []) after r in
    (so.0 ++ piece ∷ [], subst R moved turned, run_more kind start so.0 state next piece so.2 (sym step), fits)
