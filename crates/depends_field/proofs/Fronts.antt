-- Pieces that may stand where they stand begin the pieces of a readable text.
use Rattle.std.proofs.Common.{◌≡◌, ℕ, suc, ◌<◌, ◌≤◌, ◌+◌, Bool, true, false, ◌&&◌, ◌||◌, ◌==◌, cond, ltb, List, [], ◌∷◌, ◌++◌, length, take, drop, get_or, refl, ap, subst, sym, ◌∙◌, arith, inl, inr, ◌⊎◌, length-append, length-take-le}
use Rattle.std.specs.List.{list_all, prefix_len}
use Rattle.std.proofs.lemmas.List.{take_at, drop_at, take-append-drop}
use Rattle.std.proofs.lemmas.Bool.{cases_Bool, and_from, and_parts, cond-true, cond-false, ltb-true}
use Rattle.std.proofs.lemmas.Bool.Decides.{nat_tests}
use Rattle.depends_field.specs.Pieces.{is_blank, is_word_byte, piece_len, IsCut, front, behind, inside_after}
use Rattle.depends_field.proofs.Walks.{prefix_len_append}
use Rattle.depends_field.proofs.Operators.{is_operator_byte}
use Rattle.depends_field.proofs.Cuts.{piece_len_in}

-- a run that ended before a rest ends before another one that doesn't go on with it

run_ended : (q : ℕ → Bool) → q 0 ≡ false → (w rest : List ℕ) → prefix_len q (w ++ rest) ≡ length w → (list_all q w ≡ true) × (q (get_or rest 0 0) ≡ false)
run_ended q zero [] [] e = (refl, zero)
run_ended q zero [] (b ∷ rest) e =
    elim (cases_Bool (q b)) [
      | inl h ↦ let n : 1 + prefix_len q rest ≡ 0 = sym (cond-true (q b) (1 + prefix_len q rest) 0 h) ∙ e in absurd (omega arith)
      | inr h ↦ (refl, h)
    ]
run_ended q zero (b ∷ w) rest e =
    elim (cases_Bool (q b)) [
      | inl h ↦ let n : 1 + prefix_len q (w ++ rest) ≡ suc (length w) = sym (cond-true (q b) (1 + prefix_len q (w ++ rest)) 0 h) ∙ e in
          let m : prefix_len q (w ++ rest) ≡ length w = omega arith in
          let more = run_ended q zero w rest m in
          (and_from (q b) (list_all q w) h more.0, more.1)
      | inr h ↦ let n : 0 ≡ suc (length w) = sym (cond-false (q b) (1 + prefix_len q (w ++ rest)) 0 h) ∙ e in absurd (omega arith)
    ]

-- what may follow a piece in place of the rest that followed it
pub record MayFollow (inside : Bool) (b : ℕ) (head other : ℕ) : Type 0 where
  pub blank : is_blank b ≡ true → is_blank other ≡ false
  pub word : is_blank b ≡ false → is_word_byte inside b ≡ true → is_word_byte inside other ≡ false
  pub operator : is_blank b ≡ false → (is_operator_byte other ≡ false) ⊎ (other ≡ head)

-- the length of an operator's piece by its first two bytes
abbrev operator_by : ℕ → ℕ → ℕ
operator_by b c =
    cond (b == 61) 1 (cond (b == 60) (cond (c == 60 || c == 61) 2 1) (cond (b == 62) (cond (c == 62 || c == 61) 2 1) 0))

abbrev other_len : Bool → ℕ → ℕ → ℕ
other_len inside b c = cond (inside && ltb 0 (operator_by b c)) (operator_by b c) 1

one_by : (inside : Bool) (n : ℕ) → n ≤ 1 → cond (inside && ltb 0 n) n 1 ≡ 1
one_by inside n h =
    elim (cases_Bool (inside && ltb 0 n)) [
      | inl e ↦ let some = ltb-true 0 n (and_parts inside (ltb 0 n) e).1 in cond-true (inside && ltb 0 n) n 1 e ∙ omega arith
      | inr e ↦ cond-false (inside && ltb 0 n) n 1 e
    ]

no_operator : (c : ℕ) → is_operator_byte c ≡ false → (cond {A = ℕ} (c == 60 || c == 61) 2 1 ≡ 1) × (cond {A = ℕ} (c == 62 || c == 61) 2 1 ≡ 1)
no_operator c h = (grind (arith, nat_tests), grind (arith, nat_tests))

operator_by_one : (b c : ℕ) → is_operator_byte c ≡ false → operator_by b c ≡ operator_by b 0
operator_by_one b c h =
    let less = no_operator c h in
    ap (λ n. cond (b == 61) 1 (cond (b == 60) n (cond (b == 62) (cond (c == 62 || c == 61) 2 1) 0))) less.0
    ∙ ap (λ n. cond (b == 61) 1 (cond (b == 60) 1 (cond (b == 62) n 0))) less.1

one_of_first : (b : ℕ) → operator_by b 0 ≤ 1
one_of_first b = grind (arith, nat_tests)

head_in : (w rest other : List ℕ) → get_or other 0 0 ≡ get_or rest 0 0 → get_or (w ++ other) 0 0 ≡ get_or (w ++ rest) 0 0
head_in [] rest other e = e
head_in (b ∷ w) rest other e = refl

other_follows : (inside : Bool) (b : ℕ) (w rest other : List ℕ) → (is_operator_byte (get_or other 0 0) ≡ false) ⊎ (get_or other 0 0 ≡ get_or rest 0 0) → other_len inside b (get_or (w ++ rest) 0 0) ≡ suc (length w) → other_len inside b (get_or (w ++ other) 0 0) ≡ suc (length w)
other_follows inside b [] rest other (inl free) e =
    one_by inside (operator_by b (get_or other 0 0)) (omega (arith, operator_by_one b (get_or other 0 0) free, one_of_first b))
other_follows inside b (c ∷ w) rest other (inl free) e = e
other_follows inside b w rest other (inr same) e = ap (other_len inside b) (head_in w rest other same) ∙ e

blank_zero : is_blank 0 ≡ false
blank_zero = refl

word_zero : (inside : Bool) → is_word_byte inside 0 ≡ false
word_zero true = refl
word_zero false = refl

follows_by : (inside : Bool) (b : ℕ) (w rest other : List ℕ) (blank word : Bool) → is_blank b ≡ blank → is_word_byte inside b ≡ word → MayFollow inside b (get_or rest 0 0) (get_or other 0 0) → cond blank (prefix_len is_blank (b ∷ (w ++ rest))) (cond word (prefix_len (is_word_byte inside) (b ∷ (w ++ rest))) (other_len inside b (get_or (w ++ rest) 0 0))) ≡ suc (length w) → cond blank (prefix_len is_blank (b ∷ (w ++ other))) (cond word (prefix_len (is_word_byte inside) (b ∷ (w ++ other))) (other_len inside b (get_or (w ++ other) 0 0))) ≡ suc (length w)
follows_by inside b w rest other true word hb hw may e =
    prefix_len_append is_blank (b ∷ w) other (run_ended is_blank blank_zero (b ∷ w) rest e).0 (may.blank hb)
follows_by inside b w rest other false true hb hw may e =
    prefix_len_append (is_word_byte inside) (b ∷ w) other (run_ended (is_word_byte inside) (word_zero inside) (b ∷ w) rest e).0 (may.word hb hw)
follows_by inside b w rest other false false hb hw may e = other_follows inside b w rest other (may.operator hb) e

pub follows : (inside : Bool) (b : ℕ) (w rest other : List ℕ) → MayFollow inside b (get_or rest 0 0) (get_or other 0 0) → piece_len inside ((b ∷ w) ++ rest) ≡ suc (length w) → piece_len inside ((b ∷ w) ++ other) ≡ suc (length w)
unfolding piece_len
follows inside b w rest other may e = follows_by inside b w rest other (is_blank b) (is_word_byte inside b) refl refl may e

-- the same first byte of what follows

same_head_follows : (inside : Bool) (b : ℕ) (w rest other : List ℕ) → get_or other 0 0 ≡ get_or rest 0 0 → piece_len inside ((b ∷ w) ++ rest) ≡ suc (length w) → MayFollow inside b (get_or rest 0 0) (get_or other 0 0)
unfolding piece_len
same_head_follows inside b w rest other same e = record {
  blank = λ h. ap is_blank same ∙ (run_ended is_blank blank_zero (b ∷ w) rest (sym (cond-true (is_blank b) _ _ h) ∙ e)).1;
  word = λ h k. ap (is_word_byte inside) same ∙ (run_ended (is_word_byte inside) (word_zero inside) (b ∷ w) rest (sym (cond-false (is_blank b) _ _ h ∙ cond-true (is_word_byte inside b) _ _ k) ∙ e)).1;
  operator = λ h. inr same;
}

-- the first piece of a cut, with another rest behind it

pub piece_of : (inside : Bool) (text p : List ℕ) → 0 < length text → p ≡ front inside text → (p ++ behind inside text ≡ text) × (piece_len inside (p ++ behind inside text) ≡ length p) × (0 < length p)
piece_of inside text p some is =
    let bounds = piece_len_in inside text some in
    let whole : p ++ behind inside text ≡ text = ap (λ (l : List ℕ). l ++ behind inside text) is ∙ take-append-drop (piece_len inside text) text in
    let len : length p ≡ piece_len inside text = ap length is ∙ length-take-le (piece_len inside text) text bounds.1 in
    (whole, ap (piece_len inside) whole ∙ sym len, omega (arith, len, bounds.0))

pub cut_one : (inside : Bool) (p rest : List ℕ) → 0 < length p → piece_len inside (p ++ rest) ≡ length p → IsCut inside (p ++ rest) (p ∷ []) (inside_after inside p) rest
cut_one inside p rest some len = (
  omega (arith, length-append p rest),
  sym (ap (λ n. take n (p ++ rest)) len ∙ take_at p rest (length p) refl),
  (refl, ap (λ n. drop n (p ++ rest)) len ∙ drop_at p rest (length p) refl),
)

cut_front : (inside m : Bool) (p text rest : List ℕ) (ps : List (List ℕ)) → 0 < length p → piece_len inside (p ++ text) ≡ length p → IsCut (inside_after inside p) text ps m rest → IsCut inside (p ++ text) (p ∷ ps) m rest
cut_front inside m p text rest ps some len c =
    let P : List ℕ → Type 0 = λ l. IsCut (inside_after inside p) l ps m rest in (
      omega (arith, length-append p text),
      sym (ap (λ n. take n (p ++ text)) len ∙ take_at p text (length p) refl),
      subst P (sym (ap (λ n. drop n (p ++ text)) len ∙ drop_at p text (length p) refl)) c,
    )

first_byte : (p rest : List ℕ) → 0 < length p → get_or (p ++ rest) 0 0 ≡ get_or p 0 0
first_byte [] rest some = absurd (omega arith)
first_byte (b ∷ p) rest some = refl

refitted : (inside : Bool) (p rest other : List ℕ) → 0 < length p → get_or other 0 0 ≡ get_or rest 0 0 → piece_len inside (p ++ rest) ≡ length p → piece_len inside (p ++ other) ≡ length p
refitted inside [] rest other some same e = absurd (omega arith)
refitted inside (b ∷ w) rest other some same e = follows inside b w rest other (same_head_follows inside b w rest other same e) e

-- a further piece at the front of what was cut again
pub cut_again : (inside m n : Bool) (p q : List ℕ) (text other rest w : List ℕ) (ps : List (List ℕ)) → 0 < length text → p ≡ front inside text → IsCut (inside_after inside p) (behind inside text) (q ∷ ps) m rest → IsCut (inside_after inside p) other (q ∷ ps) n w → IsCut inside (p ++ other) (p ∷ q ∷ ps) n w
cut_again inside m n p q text other rest w ps some is c d =
    let here = piece_of inside text p some is in
    let next = piece_of (inside_after inside p) (behind inside text) q c.0 c.1 in
    let again = piece_of (inside_after inside p) other q d.0 d.1 in
    let head : get_or other 0 0 ≡ get_or (behind inside text) 0 0 = ap (λ (l : List ℕ). get_or l 0 0) (sym again.0) ∙ first_byte q (behind (inside_after inside p) other) again.2 ∙ sym (first_byte q (behind (inside_after inside p) (behind inside text)) next.2) ∙ ap (λ (l : List ℕ). get_or l 0 0) next.0 in
    cut_front inside n p other w (q ∷ ps) here.2 (refitted inside p (behind inside text) other here.2 head here.1) d
