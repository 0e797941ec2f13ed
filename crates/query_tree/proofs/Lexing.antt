-- A piece is cut alike whatever follows it, as long as no run goes on there.
use Rattle.std.proofs.Common.{◌≡◌, ℕ, suc, ◌+◌, ◌<◌, ◌==◌, Bool, true, false, cond, not, ◌&&◌, List, [], ◌∷◌, ◌++◌, length, take, drop, length-append, Option, Some, None, refl, sym, ap, ◌∙◌, subst, append-nil, arith}
use Rattle.std.specs.List.{prefix_len}
use Rattle.std.proofs.lemmas.Bool.{cond_both}
use Rattle.std.proofs.Math.Seq.{take-append_seam, drop-append_seam}
use Rattle.query_tree.specs.declared.piece.Place.{Place}
use Rattle.query_tree.specs.declared.piece.Place.TheVariants.{Outside, BehindWord, Opening, Inside}
use Rattle.query_tree.specs.declared.piece.Shape.{Shape}
use Rattle.query_tree.specs.declared.piece.Shape.TheVariants.{Blank, Word, Lone, Broken}
use Rattle.query_tree.specs.declared.piece.Cut.{Cut}
use Rattle.query_tree.specs.Pieces.{Piece, is_blank, is_word, is_quote, is_control, closing, one_more, of_one, of_two, after_less, after_greater, plain_cut, quoted_cut, inner_cut, opening_cut, first_cut, cut_of, next_place, pieces_from, joined}
use Rattle.query_tree.proofs.PieceText.{closing-place}
use Rattle.query_tree.proofs.Cuts.{pieces_step}

abbrev pub cut_as : Shape → ℕ → Cut
cut_as shape size = record { shape = shape; size = size }

-- the text doesn't begin with such a byte
abbrev pub NotFirst : (ℕ → Bool) → List ℕ → Type 0
NotFirst p [] = Unit {0}
NotFirst p (c ∷ cs) = p c ≡ false

-- no run goes on there
abbrev pub Separates : Shape → List ℕ → Type 0
Separates Blank rest = NotFirst is_blank rest
Separates Word rest = NotFirst is_word rest
Separates shape rest = Unit {0}

-- neither a lone sign nor an open quote, which no query has
abbrev pub IsSound : Shape → Type 0
IsSound Lone = ⊥
IsSound Broken = ⊥
IsSound shape = Unit {0}

both-cond : {A : Type 0} (b : Bool) (x y x' y' : A) (P : A → A → Type 0) → (b ≡ true → P x x') → (b ≡ false → P y y') → P (cond b x y) (cond b x' y')
both-cond true x y x' y' P h g = h refl
both-cond false x y x' y' P h g = g refl

run-local : (p : ℕ → Bool) (xs rest other : List ℕ) → prefix_len p (xs ++ rest) ≡ length xs → NotFirst p other → prefix_len p (xs ++ other) ≡ length xs
run-local p [] rest [] e n = refl
run-local p [] rest (c ∷ cs) e n = ap (λ b. cond b (1 + prefix_len p cs) 0) n
run-local p (x ∷ xs) rest other e n =
    both-cond (p x) (1 + prefix_len p (xs ++ rest)) 0 (1 + prefix_len p (xs ++ other)) 0 (λ k m. k ≡ suc (length xs) → m ≡ suc (length xs))
    (λ _ h. let same : prefix_len p (xs ++ rest) ≡ length xs = omega arith in omega (arith, run-local p xs rest other same n)) (λ _ h. h) e

run-stops : (p : ℕ → Bool) (xs rest : List ℕ) → prefix_len p (xs ++ rest) ≡ length xs → NotFirst p rest
run-stops p [] [] e = tt
run-stops p [] (c ∷ cs) e = go (p c) e
  where
    go : (b : Bool) → cond b (1 + prefix_len p cs) 0 ≡ 0 → b ≡ false
    go true h = absurd (omega arith)
    go false h = refl
run-stops p (x ∷ xs) rest e =
    cond_both (p x) (1 + prefix_len p (xs ++ rest)) 0 (λ k. k ≡ suc (length xs) → NotFirst p rest)
    (λ _ h. run-stops p xs rest (omega arith)) (λ _ h. absurd (omega arith)) e

Local : Shape → ℕ → List ℕ → Cut → Cut → Type 0
Local shape size other here there = here ≡ cut_as shape size → IsSound shape → Separates shape other → there ≡ cut_as shape size

plain-local : (c : ℕ) (xs rest other : List ℕ) (shape : Shape) → Local shape (suc (length xs)) other (plain_cut c (xs ++ rest)) (plain_cut c (xs ++ other))
unfolding plain_cut Local
plain-local c xs rest other shape =
    both-cond (is_blank c) _ _ _ _ (Local shape (suc (length xs)) other)
    (λ _ e s n.
    let is : Blank ≡ shape = ap (λ (k : Cut). k.shape) e in
    let size : prefix_len is_blank (xs ++ rest) ≡ length xs = let f = ap (λ (k : Cut). k.size) e in omega arith in
    λ i. cut_as (is i) (suc (run-local is_blank xs rest other size (subst (λ h. Separates h other) (sym is) n) i)))
    (λ _. both-cond (is_word c) _ _ _ _ (Local shape (suc (length xs)) other)
    (λ _ e s n.
    let is : Word ≡ shape = ap (λ (k : Cut). k.shape) e in
    let size : prefix_len is_word (xs ++ rest) ≡ length xs = let f = ap (λ (k : Cut). k.size) e in omega arith in
    λ i. cut_as (is i) (suc (run-local is_word xs rest other size (subst (λ h. Separates h other) (sym is) n) i)))
    (λ _ e s n. e))

pub one_more-back : (r : Option ℕ) (n : ℕ) → one_more r ≡ Some (suc n) → r ≡ Some n
one_more-back None n e = cc
one_more-back (Some m) n e = let f : suc m ≡ suc n = cc in let g : m ≡ n = omega arith in ap (λ k. Some k) g

closing-local : (quote : ℕ) (escaped : Bool) (xs rest other : List ℕ) → closing quote escaped (xs ++ rest) ≡ Some (length xs) → closing quote escaped (xs ++ other) ≡ Some (length xs)
closing-local quote escaped [] rest other e = let (k, f, l, q) = closing-place quote escaped rest 0 e in absurd (omega (arith, f))
closing-local quote escaped (x ∷ xs) rest other e =
    let next = not escaped && (x == 92) in
    let P : Option ℕ → Option ℕ → Type 0 = λ here there. here ≡ Some (suc (length xs)) → there ≡ Some (suc (length xs)) in
    both-cond (is_control x) None (cond (not escaped && (x == quote)) (Some 1) (one_more (closing quote next (xs ++ rest)))) None (cond (not escaped && (x == quote)) (Some 1) (one_more (closing quote next (xs ++ other)))) P
    (λ _ h. h)
    (λ _. both-cond (not escaped && (x == quote)) (Some 1) (one_more (closing quote next (xs ++ rest))) (Some 1) (one_more (closing quote next (xs ++ other))) P
    (λ _ h. h)
    (λ _ h. ap one_more (closing-local quote next xs rest other (one_more-back _ _ h))))
    e

quoted-local : (c : ℕ) (xs rest other : List ℕ) (shape : Shape) (n : Option ℕ) → closing c false (xs ++ rest) ≡ n → Local shape (suc (length xs)) other (quoted_cut (xs ++ rest) n) (quoted_cut (xs ++ other) (closing c false (xs ++ other)))
unfolding Local
quoted-local c xs rest other shape None f e s n = absurd (subst IsSound (sym (ap (λ (k : Cut). k.shape) e)) s)
quoted-local c xs rest other shape (Some m) f e s n =
    let size : m ≡ length xs = let g = ap (λ (k : Cut). k.size) e in omega arith in
    ap (λ r. quoted_cut (xs ++ other) r) (closing-local c false xs rest other (f ∙ ap (λ k. Some k) size)) ∙ (λ i. cut_as (ap (λ (k : Cut). k.shape) e i) (suc (length xs)))

inner-local : (c : ℕ) (xs rest other : List ℕ) (shape : Shape) → Local shape (suc (length xs)) other (inner_cut c (xs ++ rest)) (inner_cut c (xs ++ other))
unfolding inner_cut
inner-local c xs rest other shape =
    both-cond (is_quote c) _ _ _ _ (Local shape (suc (length xs)) other) (λ _. quoted-local c xs rest other shape (closing c false (xs ++ rest)) refl) (λ _. plain-local c xs rest other shape)

lone-alone : (shape : Shape) (n : ℕ) (cut : Cut) → cut_as Lone n ≡ cut_as shape 1 → IsSound shape → ⊥
lone-alone shape n cut e s = subst IsSound (sym (ap (λ (k : Cut). k.shape) e)) s

pub size-same : (a b : Shape) (m n : ℕ) → cut_as a m ≡ cut_as b n → m ≡ n
size-same a b m n e = ap (λ (k : Cut). k.size) e

two-one : (a shape : Shape) → cut_as a 2 ≡ cut_as shape 1 → ⊥
two-one a shape e = let f = size-same a shape 2 1 e in omega (arith, f)

less-local : (xs rest other : List ℕ) (shape : Shape) → Local shape (suc (length xs)) other (after_less (xs ++ rest)) (after_less (xs ++ other))
unfolding Local
less-local [] [] other shape e s n = absurd (lone-alone shape 1 (of_one Lone) e s)
less-local [] (d ∷ ds) other shape e s n =
    cond_both (d == 60) (of_two _) _ (λ k. k ≡ cut_as shape 1 → after_less other ≡ cut_as shape 1) (λ _ f. absurd (two-one _ shape f))
    (λ _. cond_both (d == 61) (of_two _) (of_one Lone) (λ k. k ≡ cut_as shape 1 → after_less other ≡ cut_as shape 1) (λ _ f. absurd (two-one _ shape f)) (λ _ f. absurd (lone-alone shape 1 (of_one Lone) f s))) e
less-local (x ∷ xs) rest other shape e s n = e

greater-local : (xs rest other : List ℕ) (shape : Shape) → Local shape (suc (length xs)) other (after_greater (xs ++ rest)) (after_greater (xs ++ other))
unfolding Local
greater-local [] [] other shape e s n = absurd (lone-alone shape 1 (of_one Lone) e s)
greater-local [] (d ∷ ds) other shape e s n =
    cond_both (d == 61) (of_two _) _ (λ k. k ≡ cut_as shape 1 → after_greater other ≡ cut_as shape 1) (λ _ f. absurd (two-one _ shape f))
    (λ _. cond_both (d == 62) (of_two _) (of_one Lone) (λ k. k ≡ cut_as shape 1 → after_greater other ≡ cut_as shape 1) (λ _ f. absurd (two-one _ shape f)) (λ _ f. absurd (lone-alone shape 1 (of_one Lone) f s))) e
greater-local (x ∷ xs) rest other shape e s n = e

opening-local : (c : ℕ) (xs rest other : List ℕ) (shape : Shape) → Local shape (suc (length xs)) other (opening_cut c (xs ++ rest)) (opening_cut c (xs ++ other))
unfolding opening_cut Local
opening-local c xs rest other shape =
    both-cond (c == 61) _ _ _ _ (Local shape (suc (length xs)) other) (λ _ e s n. e)
    (λ _. both-cond (c == 37) _ _ _ _ (Local shape (suc (length xs)) other) (λ _ e s n. e)
    (λ _. both-cond (c == 126) _ _ _ _ (Local shape (suc (length xs)) other) (λ _ e s n. e)
    (λ _. both-cond (c == 60) _ _ _ _ (Local shape (suc (length xs)) other) (λ _. less-local xs rest other shape)
    (λ _. both-cond (c == 62) _ _ _ _ (Local shape (suc (length xs)) other) (λ _. greater-local xs rest other shape)
    (λ _. inner-local c xs rest other shape)))))

first-local : (place : Place) (c : ℕ) (xs rest other : List ℕ) (shape : Shape) → first_cut place c (xs ++ rest) ≡ cut_as shape (suc (length xs)) → IsSound shape → Separates shape other → first_cut place c (xs ++ other) ≡ cut_as shape (suc (length xs))
unfolding Local
first-local Outside c xs rest other shape = plain-local c xs rest other shape
first-local BehindWord c xs rest other shape = plain-local c xs rest other shape
first-local Opening c xs rest other shape = opening-local c xs rest other shape
first-local Inside c xs rest other shape = inner-local c xs rest other shape

-- a run that was cut ends there
plain-stops : (c : ℕ) (xs rest : List ℕ) (shape : Shape) → plain_cut c (xs ++ rest) ≡ cut_as shape (suc (length xs)) → Separates shape rest
unfolding plain_cut
plain-stops c xs rest shape =
    cond_both (is_blank c) _ _ (λ k. k ≡ cut_as shape (suc (length xs)) → Separates shape rest)
    (λ _ e.
    let is : Blank ≡ shape = ap (λ (k : Cut). k.shape) e in
    let f = size-same _ shape _ _ e in
    let size : prefix_len is_blank (xs ++ rest) ≡ length xs = omega arith in
    subst (λ h. Separates h rest) is (run-stops is_blank xs rest size))
    (λ _. cond_both (is_word c) _ _ (λ k. k ≡ cut_as shape (suc (length xs)) → Separates shape rest)
    (λ _ e.
    let is : Word ≡ shape = ap (λ (k : Cut). k.shape) e in
    let f = size-same _ shape _ _ e in
    let size : prefix_len is_word (xs ++ rest) ≡ length xs = omega arith in
    subst (λ h. Separates h rest) is (run-stops is_word xs rest size))
    (λ _ e. subst (λ h. Separates h rest) (ap (λ (k : Cut). k.shape) e) tt))

quoted-stops : (xs rest : List ℕ) (n : Option ℕ) (shape : Shape) (m : ℕ) → quoted_cut xs n ≡ cut_as shape m → Separates shape rest
quoted-stops xs rest None shape m e = subst (λ h. Separates h rest) (ap (λ (k : Cut). k.shape) e) tt
quoted-stops xs rest (Some n) shape m e = subst (λ h. Separates h rest) (ap (λ (k : Cut). k.shape) e) tt

inner-stops : (c : ℕ) (xs rest : List ℕ) (shape : Shape) → inner_cut c (xs ++ rest) ≡ cut_as shape (suc (length xs)) → Separates shape rest
unfolding inner_cut
inner-stops c xs rest shape =
    cond_both (is_quote c) _ _ (λ k. k ≡ cut_as shape (suc (length xs)) → Separates shape rest) (λ _. quoted-stops (xs ++ rest) rest (closing c false (xs ++ rest)) shape (suc (length xs))) (λ _. plain-stops c xs rest shape)

shape-stops : (a shape : Shape) (n m : ℕ) (rest : List ℕ) → Separates a rest → cut_as a n ≡ cut_as shape m → Separates shape rest
shape-stops a shape n m rest s e = subst (λ h. Separates h rest) (ap (λ (k : Cut). k.shape) e) s

less-stops : (xs rest : List ℕ) (shape : Shape) (m : ℕ) → after_less xs ≡ cut_as shape m → Separates shape rest
less-stops [] rest shape m = shape-stops _ shape _ m rest tt
less-stops (d ∷ ds) rest shape m =
    cond_both (d == 60) _ _ (λ k. k ≡ cut_as shape m → Separates shape rest) (λ _. shape-stops _ shape _ m rest tt)
    (λ _. cond_both (d == 61) _ _ (λ k. k ≡ cut_as shape m → Separates shape rest) (λ _. shape-stops _ shape _ m rest tt) (λ _. shape-stops _ shape _ m rest tt))

greater-stops : (xs rest : List ℕ) (shape : Shape) (m : ℕ) → after_greater xs ≡ cut_as shape m → Separates shape rest
greater-stops [] rest shape m = shape-stops _ shape _ m rest tt
greater-stops (d ∷ ds) rest shape m =
    cond_both (d == 61) _ _ (λ k. k ≡ cut_as shape m → Separates shape rest) (λ _. shape-stops _ shape _ m rest tt)
    (λ _. cond_both (d == 62) _ _ (λ k. k ≡ cut_as shape m → Separates shape rest) (λ _. shape-stops _ shape _ m rest tt) (λ _. shape-stops _ shape _ m rest tt))

opening-stops : (c : ℕ) (xs rest : List ℕ) (shape : Shape) → opening_cut c (xs ++ rest) ≡ cut_as shape (suc (length xs)) → Separates shape rest
unfolding opening_cut
opening-stops c xs rest shape =
    let P : Cut → Type 0 = λ k. k ≡ cut_as shape (suc (length xs)) → Separates shape rest in
    cond_both (c == 61) _ _ P (λ _. shape-stops _ shape _ _ rest tt)
    (λ _. cond_both (c == 37) _ _ P (λ _. shape-stops _ shape _ _ rest tt)
    (λ _. cond_both (c == 126) _ _ P (λ _. shape-stops _ shape _ _ rest tt)
    (λ _. cond_both (c == 60) _ _ P (λ _. less-stops (xs ++ rest) rest shape _)
    (λ _. cond_both (c == 62) _ _ P (λ _. greater-stops (xs ++ rest) rest shape _)
    (λ _. inner-stops c xs rest shape)))))

first-stops : (place : Place) (c : ℕ) (xs rest : List ℕ) (shape : Shape) → first_cut place c (xs ++ rest) ≡ cut_as shape (suc (length xs)) → Separates shape rest
first-stops Outside c xs rest shape = plain-stops c xs rest shape
first-stops BehindWord c xs rest shape = plain-stops c xs rest shape
first-stops Opening c xs rest shape = opening-stops c xs rest shape
first-stops Inside c xs rest shape = inner-stops c xs rest shape

-- the piece is what is cut off before such a rest
abbrev pub IsCut : Place → Piece → List ℕ → Type 0
IsCut place p rest = (0 < length p.bytes) × (cut_of place (p.bytes ++ rest) ≡ cut_as p.shape (length p.bytes))

pub cut-local : (place : Place) (shape : Shape) (bytes rest other : List ℕ) → IsCut place (record { shape = shape; bytes = bytes }) rest → IsSound shape → Separates shape other → IsCut place (record { shape = shape; bytes = bytes }) other
cut-local place shape [] rest other h s n = absurd (omega (arith, h.0))
cut-local place shape (c ∷ xs) rest other h s n = (h.0, first-local place c xs rest other shape h.1 s n)

pub cut-stops : (place : Place) (shape : Shape) (bytes rest : List ℕ) → IsCut place (record { shape = shape; bytes = bytes }) rest → Separates shape rest
cut-stops place shape [] rest h = absurd (omega (arith, h.0))
cut-stops place shape (c ∷ xs) rest h = first-stops place c xs rest shape h.1

-- each piece is cut off before what follows, the text behind them among it
abbrev pub FrontCut : Place → List Piece → List ℕ → Type 0
FrontCut place [] rest = Unit {0}
FrontCut place (p ∷ ps) rest = IsCut place p (joined ps ++ rest) × FrontCut (next_place place p.shape) ps rest

abbrev pub place_after : Place → List Piece → Place
place_after place [] = place
place_after place (p ∷ ps) = place_after (next_place place p.shape) ps

-- the pieces of their own text are they
pub pieces_are : (ps : List Piece) (place : Place) → FrontCut place ps [] → pieces_from place (joined ps) ≡ ps
pieces_are [] place h = refl
pieces_are (p ∷ ps) place h =
    let text = p.bytes ++ joined ps in
    let cut : cut_of place text ≡ cut_as p.shape (length p.bytes) = subst (λ r. cut_of place (p.bytes ++ r) ≡ cut_as p.shape (length p.bytes)) (append-nil (joined ps)) h.0.1 in
    pieces_step place text (omega (arith, length-append p.bytes (joined ps), h.0.0))
    ∙ (λ i. record { shape = (cut i).shape; bytes = take (cut i).size text } ∷ pieces_from (next_place place (cut i).shape) (drop (cut i).size text))
    ∙ (λ i. record { shape = p.shape; bytes = take-append_seam p.bytes (joined ps) i } ∷ pieces_from (next_place place p.shape) (drop-append_seam p.bytes (joined ps) i))
    ∙ ap (λ qs. p ∷ qs) (pieces_are ps (next_place place p.shape) h.1)

-- outside the parentheses of a term
abbrev pub IsOuter : Place → Type 0
IsOuter Outside = Unit {0}
IsOuter BehindWord = Unit {0}
IsOuter Opening = ⊥
IsOuter Inside = ⊥

pub place_after-append : (place : Place) (ps qs : List Piece) → place_after place (ps ++ qs) ≡ place_after (place_after place ps) qs
place_after-append place [] qs = refl
place_after-append place (p ∷ ps) qs = place_after-append (next_place place p.shape) ps qs
