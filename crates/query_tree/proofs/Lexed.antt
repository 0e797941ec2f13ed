-- What the words and quoted values among the tokens of a text are made of.
use Rattle.std.proofs.Common.{◌≡◌, inl, inr, ℕ, suc, zero, ◌+◌, ◌-◌, ◌==◌, Bool, true, false, cond, not, ◌&&◌, ◌||◌, List, [], ◌∷◌, ◌++◌, length, take, Option, Some, None, refl, sym, ap, ◌∙◌, subst, arith}
use Rattle.std.specs.List.{prefix_len, list_all}
use Rattle.std.proofs.lemmas.Bool.{cond_both, and_parts, and_from, not_from_false, cases_Bool}
use Rattle.query_tree.specs.declared.piece.Place.{Place}
use Rattle.query_tree.specs.declared.piece.Place.TheVariants.{Outside, BehindWord, Opening, Inside}
use Rattle.query_tree.specs.declared.piece.Shape.{Shape}
use Rattle.query_tree.specs.declared.piece.Shape.TheVariants.{Blank, Word, Lone, Quoted, Broken, Mark}
use Rattle.query_tree.specs.declared.piece.Cut.{Cut}
use Rattle.query_tree.specs.Pieces.{Piece, Token, token, tokens, behind, gap, word, operator, lone, quoted, broken, mark, is_blank, is_word, is_quote, is_control, closing, one_more, unquoted, after_less, after_greater, plain_cut, quoted_cut, inner_cut, opening_cut, next_place}
use Rattle.query_tree.proofs.Lexing.{cut_as, IsCut, FrontCut, size-same, one_more-back}
use Rattle.query_tree.proofs.Shown.{IsRun, HasNoControl, word-no_control, backslash_low}

abbrev pub LexedToken : Token → Type 0
LexedToken (word text) = IsRun text
LexedToken (quoted value) = HasNoControl value
LexedToken t = Unit {0}

abbrev pub AllLexed : List Token → Type 0
AllLexed [] = Unit {0}
AllLexed (t ∷ ts) = LexedToken t × AllLexed ts

pub lexed-split : (xs ys : List Token) → AllLexed (xs ++ ys) → AllLexed xs × AllLexed ys
lexed-split [] ys h = (tt, h)
lexed-split (x ∷ xs) ys h = let r = lexed-split xs ys h.1 in ((h.0, r.0), r.1)

lexed-behind : (t : Token) (ts : List Token) → LexedToken t → AllLexed ts → AllLexed (behind t ts)
lexed-behind gap ts h r = r
lexed-behind (word text) ts h r = (h, r)
lexed-behind (operator how) ts h r = (h, r)
lexed-behind lone ts h r = (h, r)
lexed-behind (quoted value) ts h r = (h, r)
lexed-behind broken ts h r = (h, r)
lexed-behind (mark c) ts h r = (h, r)

run-all : (p : ℕ → Bool) (xs rest : List ℕ) → prefix_len p (xs ++ rest) ≡ length xs → list_all p xs ≡ true
run-all p [] rest e = refl
run-all p (x ∷ xs) rest e =
    elim (cases_Bool (p x)) [
      | inl t ↦ (let f : 1 + prefix_len p (xs ++ rest) ≡ suc (length xs) = sym (ap (λ b. cond b (1 + prefix_len p (xs ++ rest)) 0) t) ∙ e in and_from _ _ t (run-all p xs rest (omega arith)))
      | inr n ↦ (let f : 0 ≡ suc (length xs) = sym (ap (λ b. cond b (1 + prefix_len p (xs ++ rest)) 0) n) ∙ e in absurd (omega arith))
    ]

abbrev clean : ℕ → Bool
clean c = not (is_control c)

pub run-clean : (xs : List ℕ) → list_all is_word xs ≡ true → HasNoControl xs
run-clean [] h = refl
run-clean (x ∷ xs) h = let p = and_parts (is_word x) (list_all is_word xs) h in and_from _ _ (not_from_false _ (word-no_control x p.0)) (run-clean xs p.1)

take-clean : (n : ℕ) (xs : List ℕ) → HasNoControl xs → HasNoControl (take n xs)
take-clean zero xs h = refl
take-clean (suc n) [] h = refl
take-clean (suc n) (x ∷ xs) h = let p = and_parts (clean x) (list_all clean xs) h in and_from _ _ p.0 (take-clean n xs p.1)

unquoted-clean : (quote : ℕ) (escaped : Bool) (xs : List ℕ) → HasNoControl xs → HasNoControl (unquoted quote escaped xs)
unquoted-clean quote true [] h = and_from _ _ (not_from_false _ backslash_low) refl
unquoted-clean quote false [] h = refl
unquoted-clean quote true (x ∷ xs) h =
    let p = and_parts (clean x) (list_all clean xs) h in
    let more = and_from _ _ p.0 (unquoted-clean quote false xs p.1) in
    cond_both (x == quote || x == 92) (x ∷ unquoted quote false xs) (92 ∷ x ∷ unquoted quote false xs) HasNoControl (λ _. more) (λ _. and_from _ _ (not_from_false _ backslash_low) more)
unquoted-clean quote false (x ∷ xs) h =
    let p = and_parts (clean x) (list_all clean xs) h in
    cond_both (x == 92) (unquoted quote true xs) (x ∷ unquoted quote false xs) HasNoControl (λ _. unquoted-clean quote true xs p.1) (λ _. and_from _ _ p.0 (unquoted-clean quote false xs p.1))

closing-clean : (quote : ℕ) (escaped : Bool) (xs rest : List ℕ) → closing quote escaped (xs ++ rest) ≡ Some (length xs) → HasNoControl xs
closing-clean quote escaped [] rest e = refl
closing-clean quote escaped (x ∷ xs) rest e =
    let next = not escaped && (x == 92) in
    let P : Option ℕ → Type 0 = λ r. r ≡ Some (suc (length xs)) → HasNoControl (x ∷ xs) in
    cond_both (is_control x) None (cond (not escaped && (x == quote)) (Some 1) (one_more (closing quote next (xs ++ rest)))) P
    (λ _ f. cc)
    (λ k. cond_both (not escaped && (x == quote)) (Some 1) (one_more (closing quote next (xs ++ rest))) P
    (λ _ f. and_from _ _ (not_from_false _ k) (none-left xs f))
    (λ _ f. and_from _ _ (not_from_false _ k) (closing-clean quote next xs rest (one_more-back _ _ f))))
    e
  where
    none-left : (xs : List ℕ) → Some 1 ≡ Some (suc (length xs)) → HasNoControl xs
    none-left [] f = refl
    none-left (y ∷ ys) f = let g : 1 ≡ suc (suc (length ys)) = cc in absurd (omega arith)

abbrev Gives : Shape → ℕ → List ℕ → Cut → Type 0
Gives shape c xs cut = cut ≡ cut_as shape (suc (length xs)) → LexedToken (token shape (c ∷ xs))

other-gives : (a shape : Shape) (n c : ℕ) (xs : List ℕ) → LexedToken (token a (c ∷ xs)) → Gives shape c xs (cut_as a n)
other-gives a shape n c xs h e = subst (λ s. LexedToken (token s (c ∷ xs))) (ap (λ (k : Cut). k.shape) e) h

plain-gives : (c : ℕ) (xs rest : List ℕ) (shape : Shape) → Gives shape c xs (plain_cut c (xs ++ rest))
unfolding plain_cut
plain-gives c xs rest shape =
    cond_both (is_blank c) _ _ (Gives shape c xs) (λ _. other-gives Blank shape _ c xs tt)
    (λ _. cond_both (is_word c) _ _ (Gives shape c xs)
    (λ w e. let f = size-same Word shape _ _ e in other-gives Word shape _ c xs (record { some = omega arith; each = and_from _ _ w (run-all is_word xs rest (omega arith)) }) e)
    (λ _. other-gives (Mark c) shape 1 c xs tt))

quoted-gives : (c : ℕ) (xs rest : List ℕ) (shape : Shape) (n : Option ℕ) → closing c false (xs ++ rest) ≡ n → Gives shape c xs (quoted_cut (xs ++ rest) n)
quoted-gives c xs rest shape None f = other-gives Broken shape _ c xs tt
quoted-gives c xs rest shape (Some m) f = λ e.
    let g = size-same Quoted shape _ _ e in
    let same : m ≡ length xs = omega arith in
    other-gives Quoted shape (suc m) c xs (unquoted-clean c false (take (length xs - 1) xs) (take-clean (length xs - 1) xs (closing-clean c false xs rest (f ∙ ap (λ k. Some k) same)))) e

inner-gives : (c : ℕ) (xs rest : List ℕ) (shape : Shape) → Gives shape c xs (inner_cut c (xs ++ rest))
unfolding inner_cut
inner-gives c xs rest shape =
    cond_both (is_quote c) _ _ (Gives shape c xs) (λ _. quoted-gives c xs rest shape (closing c false (xs ++ rest)) refl) (λ _. plain-gives c xs rest shape)

less-gives : (text : List ℕ) (shape : Shape) (c : ℕ) (xs : List ℕ) → Gives shape c xs (after_less text)
less-gives [] shape c xs = other-gives Lone shape 1 c xs tt
less-gives (d ∷ ds) shape c xs =
    cond_both (d == 60) _ _ (Gives shape c xs) (λ _. other-gives _ shape 2 c xs tt) (λ _. cond_both (d == 61) _ _ (Gives shape c xs) (λ _. other-gives _ shape 2 c xs tt) (λ _. other-gives Lone shape 1 c xs tt))

greater-gives : (text : List ℕ) (shape : Shape) (c : ℕ) (xs : List ℕ) → Gives shape c xs (after_greater text)
greater-gives [] shape c xs = other-gives Lone shape 1 c xs tt
greater-gives (d ∷ ds) shape c xs =
    cond_both (d == 61) _ _ (Gives shape c xs) (λ _. other-gives _ shape 2 c xs tt) (λ _. cond_both (d == 62) _ _ (Gives shape c xs) (λ _. other-gives _ shape 2 c xs tt) (λ _. other-gives Lone shape 1 c xs tt))

opening-gives : (c : ℕ) (xs rest : List ℕ) (shape : Shape) → Gives shape c xs (opening_cut c (xs ++ rest))
unfolding opening_cut
opening-gives c xs rest shape =
    cond_both (c == 61) _ _ (Gives shape c xs) (λ _. other-gives _ shape 1 c xs tt)
    (λ _. cond_both (c == 37) _ _ (Gives shape c xs) (λ _. other-gives _ shape 1 c xs tt)
    (λ _. cond_both (c == 126) _ _ (Gives shape c xs) (λ _. other-gives _ shape 1 c xs tt)
    (λ _. cond_both (c == 60) _ _ (Gives shape c xs) (λ _. less-gives (xs ++ rest) shape c xs)
    (λ _. cond_both (c == 62) _ _ (Gives shape c xs) (λ _. greater-gives (xs ++ rest) shape c xs)
    (λ _. inner-gives c xs rest shape)))))

cut-lexed : (place : Place) (shape : Shape) (bytes rest : List ℕ) → IsCut place (record { shape = shape; bytes = bytes }) rest → LexedToken (token shape bytes)
cut-lexed place shape [] rest h = absurd (omega (arith, h.0))
cut-lexed Outside shape (c ∷ xs) rest h = plain-gives c xs rest shape h.1
cut-lexed BehindWord shape (c ∷ xs) rest h = plain-gives c xs rest shape h.1
cut-lexed Opening shape (c ∷ xs) rest h = opening-gives c xs rest shape h.1
cut-lexed Inside shape (c ∷ xs) rest h = inner-gives c xs rest shape h.1

-- the tokens of pieces that were cut
pub front-lexed : (ps : List Piece) (place : Place) (rest : List ℕ) → FrontCut place ps rest → AllLexed (tokens ps)
front-lexed [] place rest h = tt
front-lexed (p ∷ ps) place rest h = lexed-behind (token p.shape p.bytes) (tokens ps) (cut-lexed place p.shape p.bytes _ h.0) (front-lexed ps (next_place place p.shape) rest h.1)
