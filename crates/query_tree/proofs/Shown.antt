-- What is written is cut into pieces again.
use Rattle.std.proofs.Common.{◌≡◌, ◌⊎◌, inl, inr, ℕ, suc, ◌+◌, ◌-◌, ◌<◌, ◌==◌, true, false, cond, not, ◌||◌, List, [], ◌∷◌, ◌++◌, length, length-append, take, Option, Some, refl, ap, ◌∙◌, append_assoc, arith, lit<}
use Rattle.std.specs.List.{prefix_len, list_all}
use Rattle.std.proofs.Math.Seq.{take-append_seam}
use Rattle.std.proofs.lemmas.Bool.{cond_both, and_parts, cond-true, cond-false, not-true, or_parts}
use Rattle.std.proofs.lemmas.Bool.Decides.{nat_tests}
use Rattle.query_tree.specs.declared.piece.Place.{Place}
use Rattle.query_tree.specs.declared.piece.Place.TheVariants.{Outside, BehindWord, Opening, Inside}
use Rattle.query_tree.specs.declared.piece.Shape.TheVariants.{Blank, Word, Operator, Quoted, Mark}
use Rattle.query_tree.specs.declared.query.Test.{Test}
use Rattle.query_tree.specs.declared.query.Test.TheVariants as test
use Rattle.query_tree.specs.Pieces.{Piece, is_blank, is_word, is_quote, is_control, closing, one_more, unquoted, quoted_value, plain_cut, inner_cut, quoted_cut, opening_cut, cut_of}
use Rattle.query_tree.specs.Written.{test_text, escaped}
use Rattle.query_tree.proofs.Lexing.{cut_as, NotFirst, IsCut}

-- a run of word characters
pub record IsRun (text : List ℕ) : Type 0 where
  pub some : 0 < length text
  pub each : list_all is_word text ≡ true

pub word-no_blank : (c : ℕ) → is_word c ≡ true → is_blank c ≡ false
unfolding is_word
word-no_blank c h = grind (arith, nat_tests)

word-no_quote : (c : ℕ) → is_word c ≡ true → is_quote c ≡ false
unfolding is_word
word-no_quote c h = grind (arith, nat_tests)

pub word-no_control : (c : ℕ) → is_word c ≡ true → is_control c ≡ false
unfolding is_word is_control
word-no_control c h = grind (arith, nat_tests)

whole-run : (xs rest : List ℕ) → list_all is_word xs ≡ true → NotFirst is_word rest → prefix_len is_word (xs ++ rest) ≡ length xs
whole-run [] [] h n = refl
whole-run [] (c ∷ cs) h n = ap (λ b. cond b (1 + prefix_len is_word cs) 0) n
whole-run (x ∷ xs) rest h n =
    let p = and_parts (is_word x) (list_all is_word xs) h in
    cond-true (is_word x) (1 + prefix_len is_word (xs ++ rest)) 0 p.0 ∙ omega (arith, whole-run xs rest p.1 n)

plain-run : (c : ℕ) (cs rest : List ℕ) → is_word c ≡ true → list_all is_word cs ≡ true → NotFirst is_word rest → plain_cut c (cs ++ rest) ≡ cut_as Word (suc (length cs))
unfolding plain_cut
plain-run c cs rest w h n =
    cond-false (is_blank c) _ _ (word-no_blank c w) ∙ cond-true (is_word c) _ _ w ∙ ap (λ k. cut_as Word (suc k)) (whole-run cs rest h n)

inner-run : (c : ℕ) (cs rest : List ℕ) → is_word c ≡ true → list_all is_word cs ≡ true → NotFirst is_word rest → inner_cut c (cs ++ rest) ≡ cut_as Word (suc (length cs))
unfolding inner_cut
inner-run c cs rest w h n = cond-false (is_quote c) _ _ (word-no_quote c w) ∙ plain-run c cs rest w h n

abbrev pub run_piece : List ℕ → Piece
run_piece bytes = record { shape = Word; bytes = bytes }

abbrev pub sign : ℕ → Piece
sign c = record { shape = Mark c; bytes = c ∷ [] }

abbrev pub space : Piece
space = record { shape = Blank; bytes = 32 ∷ [] }

-- a run is cut off before what goes on with no word character
pub outer-run-cut : (place : Place) (text rest : List ℕ) → (place ≡ Outside) ⊎ (place ≡ BehindWord) → IsRun text → NotFirst is_word rest → IsCut place (run_piece text) rest
outer-run-cut place [] rest o r n = absurd (omega (arith, r.some))
outer-run-cut place (c ∷ cs) rest (inl e) r n =
    let p = and_parts (is_word c) (list_all is_word cs) r.each in
    (omega arith, ap (λ q. cut_of q (c ∷ (cs ++ rest))) e ∙ plain-run c cs rest p.0 p.1 n)
outer-run-cut place (c ∷ cs) rest (inr e) r n =
    let p = and_parts (is_word c) (list_all is_word cs) r.each in
    (omega arith, ap (λ q. cut_of q (c ∷ (cs ++ rest))) e ∙ plain-run c cs rest p.0 p.1 n)

pub inner-run-cut : (text rest : List ℕ) → IsRun text → NotFirst is_word rest → IsCut Inside (run_piece text) rest
inner-run-cut [] rest r n = absurd (omega (arith, r.some))
inner-run-cut (c ∷ cs) rest r n =
    let p = and_parts (is_word c) (list_all is_word cs) r.each in
    (omega arith, inner-run c cs rest p.0 p.1 n)

-- an operator is cut off before a blank
pub test-cut : (how : Test) (rest : List ℕ) → IsCut Opening (record { shape = Operator how; bytes = test_text how }) (32 ∷ rest)
unfolding opening_cut
test-cut test.Equal rest = (lit< tt, refl)
test-cut test.Less rest = (lit< tt, refl)
test-cut test.LessEqual rest = (lit< tt, refl)
test-cut test.GreaterEqual rest = (lit< tt, refl)
test-cut test.Greater rest = (lit< tt, refl)
test-cut test.Glob rest = (lit< tt, refl)
test-cut test.Pattern rest = (lit< tt, refl)

-- a quoted value is closed where it is written to be, and means what was written
abbrev pub HasNoControl : List ℕ → Type 0
HasNoControl value = list_all (λ c. not (is_control c)) value ≡ true

quote_low : is_control 34 ≡ false
unfolding is_control
quote_low = refl

pub backslash_low : is_control 92 ≡ false
unfolding is_control
backslash_low = refl

more-is : (r : Option ℕ) (n : ℕ) → r ≡ Some n → one_more r ≡ Some (suc n)
more-is r n e = ap one_more e

-- a byte that is no quote and no backslash
closing-other : (c : ℕ) (cs : List ℕ) (n : ℕ) → is_control c ≡ false → (c == 34) ≡ false → (c == 92) ≡ false → closing 34 false cs ≡ Some n → closing 34 false (c ∷ cs) ≡ Some (suc n)
closing-other c cs n k q b e =
    cond-false (is_control c) _ _ k ∙ cond-false (c == 34) _ _ q ∙ ap (λ f. one_more (closing 34 f cs)) b ∙ ap one_more e

-- a backslash and the byte behind it
closing-escaped : (c : ℕ) (cs : List ℕ) (n : ℕ) → is_control c ≡ false → closing 34 false cs ≡ Some n → closing 34 false (92 ∷ c ∷ cs) ≡ Some (suc (suc n))
closing-escaped c cs n k e =
    cond-false (is_control 92) _ _ backslash_low ∙ ap one_more (cond-false (is_control c) _ _ k ∙ ap one_more e)

pub closing-written : (value rest : List ℕ) → HasNoControl value → closing 34 false (escaped value ++ 34 ∷ rest) ≡ Some (suc (length (escaped value)))
closing-written [] rest h = cond-false (is_control 34) _ _ quote_low
closing-written (c ∷ cs) rest h =
    let p = and_parts (not (is_control c)) (list_all (λ d. not (is_control d)) cs) h in
    let k = not-true (is_control c) p.0 in
    let more = closing-written cs rest p.1 in
    cond_both (c == 34 || c == 92) (92 ∷ c ∷ escaped cs) (c ∷ escaped cs) (λ xs. closing 34 false (xs ++ 34 ∷ rest) ≡ Some (suc (length xs)))
    (λ _. closing-escaped c (escaped cs ++ 34 ∷ rest) (suc (length (escaped cs))) k more)
    (λ other. let q = or_parts (c == 34) (c == 92) other in closing-other c (escaped cs ++ 34 ∷ rest) (suc (length (escaped cs))) k q.0 q.1 more)

pub unquoted-written : (value : List ℕ) → unquoted 34 false (escaped value) ≡ value
unquoted-written [] = refl
unquoted-written (c ∷ cs) =
    cond_both (c == 34 || c == 92) (92 ∷ c ∷ escaped cs) (c ∷ escaped cs) (λ xs. unquoted 34 false xs ≡ c ∷ cs)
    (λ special. cond-true (c == 34 || c == 92) _ _ special ∙ ap (λ xs. c ∷ xs) (unquoted-written cs))
    (λ other. cond-false (c == 92) _ _ (or_parts (c == 34) (c == 92) other).1 ∙ ap (λ xs. c ∷ xs) (unquoted-written cs))

abbrev pub quoted_text : List ℕ → List ℕ
quoted_text value = 34 ∷ (escaped value ++ 34 ∷ [])

pub quoted-means : (value : List ℕ) → quoted_value (quoted_text value) ≡ value
quoted-means value =
    let size : length (escaped value ++ 34 ∷ []) - 1 ≡ length (escaped value) = omega (arith, length-append (escaped value) (34 ∷ [])) in
    ap (λ n. unquoted 34 false (take n (escaped value ++ 34 ∷ []))) size ∙ ap (λ xs. unquoted 34 false xs) (take-append_seam (escaped value) (34 ∷ [])) ∙ unquoted-written value

pub quoted-cut : (value rest : List ℕ) → HasNoControl value → IsCut Inside (record { shape = Quoted; bytes = quoted_text value }) rest
unfolding inner_cut
quoted-cut value rest h =
    let closes : closing 34 false ((escaped value ++ 34 ∷ []) ++ rest) ≡ Some (suc (length (escaped value))) = ap (λ xs. closing 34 false xs) (append_assoc (escaped value) (34 ∷ []) rest) ∙ closing-written value rest h in
    let size : suc (length (escaped value)) ≡ length (escaped value ++ 34 ∷ []) = omega (arith, length-append (escaped value) (34 ∷ [])) in
    (omega arith, ap (λ r. quoted_cut ((escaped value ++ 34 ∷ []) ++ rest) r) closes ∙ ap (λ n. cut_as Quoted (suc n)) size)
