-- A text's pieces are its first piece and the pieces of what follows it.
use Rattle.std.proofs.Common.{◌≡◌, ℕ, suc, zero, ◌<◌, ◌≤◌, ◌==◌, false, List, [], ◌∷◌, length, take, drop, length-drop, Option, Some, None, refl, ap, arith}
use Rattle.std.specs.Str.{IsUtf8, IsCharBoundary}
use Rattle.std.proofs.lemmas.Bool.{cond_both}
use Rattle.std.proofs.lemmas.List.Sums.{prefix_len-le-length}
use Rattle.query_tree.specs.declared.piece.Place.{Place}
use Rattle.query_tree.specs.declared.piece.Place.TheVariants.{Outside, BehindWord, Opening, Inside}
use Rattle.query_tree.specs.declared.piece.Shape.{Shape}
use Rattle.query_tree.specs.declared.piece.Shape.TheVariants.{Blank, Word, Operator, Lone, Quoted, Broken, Mark}
use Rattle.query_tree.specs.declared.piece.Cut.{Cut}
use Rattle.query_tree.specs.Pieces.{is_blank, is_word, is_quote, closing, quoted_value, IfQuoted, after_less, after_greater, plain_cut, quoted_cut, inner_cut, opening_cut, first_cut, next_place, cuts, cut_of, pieces_from}
use Rattle.query_tree.proofs.PieceText.{first_cut-good, closing-place}

-- a piece has a byte at least, and no more than there are
record IsWithin (room : ℕ) (cut : Cut) : Type 0 where
  above : 0 < cut.size
  below : cut.size ≤ suc room

within-size : (room : ℕ) (shape : Shape) (n : ℕ) → n ≤ room → IsWithin room (record { shape = shape; size = suc n })
within-size room shape n h = record { above = omega arith; below = omega arith }

plain-within : (c : ℕ) (cs : List ℕ) → IsWithin (length cs) (plain_cut c cs)
unfolding plain_cut
plain-within c cs =
    cond_both (is_blank c) _ _ (IsWithin (length cs)) (λ _. within-size (length cs) Blank _ (prefix_len-le-length is_blank cs))
    (λ _. cond_both (is_word c) _ _ (IsWithin (length cs)) (λ _. within-size (length cs) Word _ (prefix_len-le-length is_word cs)) (λ _. within-size (length cs) (Mark c) 0 (omega arith)))

quoted-within : (c : ℕ) (cs : List ℕ) (n : Option ℕ) → closing c false cs ≡ n → IsWithin (length cs) (quoted_cut cs n)
quoted-within c cs None e = within-size (length cs) Broken _ (omega arith)
quoted-within c cs (Some n) e = let (k, f, l, q) = closing-place c false cs n e in within-size (length cs) Quoted n (omega arith)

inner-within : (c : ℕ) (cs : List ℕ) → IsWithin (length cs) (inner_cut c cs)
unfolding inner_cut
inner-within c cs = cond_both (is_quote c) _ _ (IsWithin (length cs)) (λ _. quoted-within c cs (closing c false cs) refl) (λ _. plain-within c cs)

less-within : (cs : List ℕ) → IsWithin (length cs) (after_less cs)
less-within [] = within-size 0 _ 0 (omega arith)
less-within (c ∷ cs) =
    cond_both (c == 60) _ _ (IsWithin (length (c ∷ cs))) (λ _. within-size (length (c ∷ cs)) _ 1 (omega arith))
    (λ _. cond_both (c == 61) _ _ (IsWithin (length (c ∷ cs))) (λ _. within-size (length (c ∷ cs)) _ 1 (omega arith)) (λ _. within-size (length (c ∷ cs)) _ 0 (omega arith)))

greater-within : (cs : List ℕ) → IsWithin (length cs) (after_greater cs)
greater-within [] = within-size 0 _ 0 (omega arith)
greater-within (c ∷ cs) =
    cond_both (c == 61) _ _ (IsWithin (length (c ∷ cs))) (λ _. within-size (length (c ∷ cs)) _ 1 (omega arith))
    (λ _. cond_both (c == 62) _ _ (IsWithin (length (c ∷ cs))) (λ _. within-size (length (c ∷ cs)) _ 1 (omega arith)) (λ _. within-size (length (c ∷ cs)) _ 0 (omega arith)))

opening-within : (c : ℕ) (cs : List ℕ) → IsWithin (length cs) (opening_cut c cs)
unfolding opening_cut
opening-within c cs =
    let room = length cs in
    cond_both (c == 61) _ _ (IsWithin room) (λ _. within-size room _ 0 (omega arith)) (λ _. cond_both (c == 37) _ _ (IsWithin room) (λ _. within-size room _ 0 (omega arith))
    (λ _. cond_both (c == 126) _ _ (IsWithin room) (λ _. within-size room _ 0 (omega arith))
    (λ _. cond_both (c == 60) _ _ (IsWithin room) (λ _. less-within cs) (λ _. cond_both (c == 62) _ _ (IsWithin room) (λ _. greater-within cs) (λ _. inner-within c cs)))))

first-within : (place : Place) (c : ℕ) (cs : List ℕ) → IsWithin (length cs) (first_cut place c cs)
first-within Outside c cs = plain-within c cs
first-within BehindWord c cs = plain-within c cs
first-within Opening c cs = opening-within c cs
first-within Inside c cs = inner-within c cs

pub first_cut-positive : (place : Place) (c : ℕ) (cs : List ℕ) → 0 < (first_cut place c cs).size
first_cut-positive place c cs = (first-within place c cs).above

pub first_cut-inside : (place : Place) (c : ℕ) (cs : List ℕ) → (first_cut place c cs).size ≤ suc (length cs)
first_cut-inside place c cs = (first-within place c cs).below

-- how many pieces may come at most makes no difference
pub cuts_enough : (n m : ℕ) (place : Place) (text : List ℕ) → length text ≤ n → length text ≤ m → cuts n place text ≡ cuts m place text
cuts_enough zero zero place text a b = refl
cuts_enough zero (suc m) place [] a b = refl
cuts_enough zero (suc m) place (c ∷ cs) a b = absurd (omega arith)
cuts_enough (suc n) zero place [] a b = refl
cuts_enough (suc n) zero place (c ∷ cs) a b = absurd (omega arith)
cuts_enough (suc n) (suc m) place [] a b = refl
cuts_enough (suc n) (suc m) place (c ∷ cs) a b =
    let cut = first_cut place c cs in
    let shorter : length (drop cut.size (c ∷ cs)) ≤ length cs = omega (arith, length-drop cut.size (c ∷ cs), first_cut-positive place c cs) in
    ap (λ ps. record { shape = cut.shape; bytes = take cut.size (c ∷ cs) } ∷ ps) (cuts_enough n m (next_place place cut.shape) (drop cut.size (c ∷ cs)) (omega arith) (omega arith))

pub pieces_step : (place : Place) (text : List ℕ) → 0 < length text → pieces_from place text ≡ record { shape = (cut_of place text).shape; bytes = take (cut_of place text).size text } ∷ pieces_from (next_place place (cut_of place text).shape) (drop (cut_of place text).size text)
pieces_step place [] h = absurd (omega arith)
pieces_step place (c ∷ cs) h =
    let cut = first_cut place c cs in
    let shorter : length (drop cut.size (c ∷ cs)) ≤ length cs = omega (arith, length-drop cut.size (c ∷ cs), first_cut-positive place c cs) in
    ap (λ ps. record { shape = cut.shape; bytes = take cut.size (c ∷ cs) } ∷ ps) (cuts_enough (length cs) (length (drop cut.size (c ∷ cs))) (next_place place cut.shape) (drop cut.size (c ∷ cs)) shorter (omega arith))

-- a text may be cut there
pub cut_boundary : (place : Place) (text : List ℕ) → IsUtf8 text → 0 < length text → IsCharBoundary text (cut_of place text).size
cut_boundary place [] u h = absurd (omega arith)
cut_boundary place (c ∷ cs) u h = (first_cut-good place c cs u).boundary

pub cut_positive : (place : Place) (text : List ℕ) → 0 < length text → 0 < (cut_of place text).size
cut_positive place [] h = absurd (omega arith)
cut_positive place (c ∷ cs) h = first_cut-positive place c cs

if_quoted : (shape : Shape) (P : Type 0) → (shape ≡ Quoted → P) → IfQuoted shape P
if_quoted Quoted P h = h refl
if_quoted Blank P h = tt
if_quoted Word P h = tt
if_quoted (Operator how) P h = tt
if_quoted Lone P h = tt
if_quoted Broken P h = tt
if_quoted (Mark c) P h = tt

pub cut_quoted : (place : Place) (text : List ℕ) → IsUtf8 text → 0 < length text → IfQuoted (cut_of place text).shape (IsUtf8 (quoted_value (take (cut_of place text).size text)))
cut_quoted place [] u h = absurd (omega arith)
cut_quoted place (c ∷ cs) u h = if_quoted _ _ (λ e. (first_cut-good place c cs u).quoted e)
