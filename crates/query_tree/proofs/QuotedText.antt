-- What a quoted value means is text again, and so is what is written of it.
use Rattle.std.proofs.Common.{◌≡◌, inl, inr, ℕ, ◌+◌, ◌<◌, ◌≤◌, ◌==◌, ltb, Bool, true, false, ◌||◌, List, [], ◌∷◌, ◌++◌, length, refl, sym, ap, ◌∙◌, subst, arith, lit≤, lit<}
use Rattle.std.specs.Str.{IsUtf8}
use lib.Utf8.{encode, encodes, scalar, scalars, low_scalar}
use Rattle.std.proofs.lemmas.Bool.{cases_lt, ne_eqb, or_from, and_parts, cond-false, cond_both}
use Rattle.std.proofs.lemmas.Str.{IsUtf8-append, IsUtf8-nil, IsUtf8-encode, encode_ascii, length-encode, len_utf8_bounds}
use Rattle.query_tree.specs.Pieces.{unquoted}
use Rattle.query_tree.specs.Written.{escaped}

-- no byte is ASCII
abbrev AllHigh : List ℕ → Type 0
AllHigh [] = Unit {0}
AllHigh (c ∷ cs) = (128 ≤ c) × AllHigh cs

above : (n m : ℕ) → 128 ≤ n → 128 ≤ n + m
above n m h = omega arith

high_encode : (c : ℕ) → 128 ≤ c → AllHigh (encode c)
unfolding encode
high_encode c h =
    cond_both (ltb c 128) _ _ AllHigh (λ e. (h, tt))
    (λ _. cond_both (ltb c 2048) _ _ AllHigh (λ _. (above 192 _ (lit≤ tt), (above 128 _ (lit≤ tt), tt)))
    (λ _. cond_both (ltb c 65536) _ _ AllHigh (λ _. (above 224 _ (lit≤ tt), (above 128 _ (lit≤ tt), (above 128 _ (lit≤ tt), tt))))
    (λ _. (above 240 _ (lit≤ tt), (above 128 _ (lit≤ tt), (above 128 _ (lit≤ tt), (above 128 _ (lit≤ tt), tt)))))))

no_quote : (quote c : ℕ) → quote < 128 → 128 ≤ c → ((c == quote) ≡ false) × ((c == 92) ≡ false)
no_quote quote c q h = (ne_eqb c quote (λ e. absurd (omega arith)), ne_eqb c 92 (λ e. absurd (omega arith)))

-- such bytes stand for themselves
high_unquoted : (quote : ℕ) (xs rest : List ℕ) → quote < 128 → AllHigh xs → unquoted quote false (xs ++ rest) ≡ xs ++ unquoted quote false rest
high_unquoted quote [] rest q h = refl
high_unquoted quote (x ∷ xs) rest q h =
    cond-false (x == 92) _ _ (no_quote quote x q h.0).1 ∙ ap (λ ys. x ∷ ys) (high_unquoted quote xs rest q h.1)

high_escaped : (quote : ℕ) (xs rest : List ℕ) → quote < 128 → AllHigh xs → (xs ≡ [] → ⊥) → unquoted quote true (xs ++ rest) ≡ 92 ∷ (xs ++ unquoted quote false rest)
high_escaped quote [] rest q h some = absurd (some refl)
high_escaped quote (x ∷ xs) rest q h some =
    let n = no_quote quote x q h.0 in
    cond-false (x == quote || x == 92) _ _ (or_from _ _ n.0 n.1) ∙ ap (λ ys. 92 ∷ x ∷ ys) (high_unquoted quote xs rest q h.1)

-- one more character of ASCII
pub ascii_more : (c : ℕ) (bs : List ℕ) → c < 128 → IsUtf8 bs → IsUtf8 (c ∷ bs)
ascii_more c bs h u = IsUtf8-append (c ∷ []) bs (subst IsUtf8 (encode_ascii c h) (IsUtf8-encode c (low_scalar c (omega arith)))) u

encode_some : (c : ℕ) → encode c ≡ [] → ⊥
encode_some c e = absurd (omega (arith, length-encode c, len_utf8_bounds c, ap length e))

ascii_step : (quote : ℕ) (escaped : Bool) (c : ℕ) (rest : List ℕ) → c < 128 → IsUtf8 (unquoted quote true rest) → IsUtf8 (unquoted quote false rest) → IsUtf8 (unquoted quote escaped (c ∷ rest))
ascii_step quote true c rest low t f =
    cond_both (c == quote || c == 92) _ _ IsUtf8 (λ _. ascii_more c _ low f) (λ _. ascii_more 92 _ (lit< tt) (ascii_more c _ low f))
ascii_step quote false c rest low t f = cond_both (c == 92) _ _ IsUtf8 (λ _. t) (λ _. ascii_more c _ low f)

high_step : (quote : ℕ) (escaped : Bool) (xs rest : List ℕ) → quote < 128 → AllHigh xs → (xs ≡ [] → ⊥) → IsUtf8 xs → IsUtf8 (unquoted quote false rest) → IsUtf8 (unquoted quote escaped (xs ++ rest))
high_step quote true xs rest q h some u f = subst IsUtf8 (sym (high_escaped quote xs rest q h some)) (ascii_more 92 _ (lit< tt) (IsUtf8-append xs _ u f))
high_step quote false xs rest q h some u f = subst IsUtf8 (sym (high_unquoted quote xs rest q h)) (IsUtf8-append xs _ u f)

utf8_of : (quote : ℕ) (escaped : Bool) (cs : List ℕ) → quote < 128 → scalars cs ≡ true → IsUtf8 (unquoted quote escaped (encodes cs))
utf8_of quote true [] q s = ascii_more 92 [] (lit< tt) IsUtf8-nil
utf8_of quote false [] q s = IsUtf8-nil
utf8_of quote escaped (c ∷ cs) q s =
    let parts = and_parts (scalar c) (scalars cs) s in
    elim (cases_lt c 128) [
      | inl low ↦ subst (λ bs. IsUtf8 (unquoted quote escaped (bs ++ encodes cs))) (sym (encode_ascii c low)) (ascii_step quote escaped c (encodes cs) low (utf8_of quote true cs q parts.1) (utf8_of quote false cs q parts.1))
      | inr high ↦ high_step quote escaped (encode c) (encodes cs) q (high_encode c high) (encode_some c) (IsUtf8-encode c parts.0) (utf8_of quote false cs q parts.1)
    ]

-- what is meant by text is text
pub unquoted-IsUtf8 : (quote : ℕ) (escaped : Bool) (bs : List ℕ) → quote < 128 → IsUtf8 bs → IsUtf8 (unquoted quote escaped bs)
unquoted-IsUtf8 quote escaped bs q (cs, (s, e)) = subst (λ xs. IsUtf8 (unquoted quote escaped xs)) e (utf8_of quote escaped cs q s)

-- the same of what is written of a value
high_written : (xs rest : List ℕ) → AllHigh xs → escaped (xs ++ rest) ≡ xs ++ escaped rest
high_written [] rest h = refl
high_written (x ∷ xs) rest h =
    let n = no_quote 34 x (lit< tt) h.0 in
    cond-false (x == 34 || x == 92) _ _ (or_from _ _ n.0 n.1) ∙ ap (λ ys. x ∷ ys) (high_written xs rest h.1)

escaped_of : (cs : List ℕ) → scalars cs ≡ true → IsUtf8 (escaped (encodes cs))
escaped_of [] s = IsUtf8-nil
escaped_of (c ∷ cs) s =
    let parts = and_parts (scalar c) (scalars cs) s in
    let more = escaped_of cs parts.1 in
    elim (cases_lt c 128) [
      | inl low ↦ subst (λ bs. IsUtf8 (escaped (bs ++ encodes cs))) (sym (encode_ascii c low)) (cond_both (c == 34 || c == 92) _ _ IsUtf8 (λ _. ascii_more 92 _ (lit< tt) (ascii_more c _ low more)) (λ _. ascii_more c _ low more))
      | inr high ↦ subst IsUtf8 (sym (high_written (encode c) (encodes cs) (high_encode c high))) (IsUtf8-append (encode c) (escaped (encodes cs)) (IsUtf8-encode c parts.0) more)
    ]

pub escaped-IsUtf8 : (bs : List ℕ) → IsUtf8 bs → IsUtf8 (escaped bs)
escaped-IsUtf8 bs (cs, (s, e)) = subst (λ xs. IsUtf8 (escaped xs)) e (escaped_of cs s)
