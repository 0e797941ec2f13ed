-- Texts written piece by piece.
use Rattle.std.proofs.Common.{◌≡◌, ℕ, zero, suc, ◌+◌, ◌≤◌, List, [], ◌∷◌, ◌++◌, length, take, map, Some, Result, Ok, Err, sym, ap, ◌∙◌, arith, append_assoc, append-nil}
use Rattle.std.specs.Prelude.{slice_get}
use Rattle.std.specs.Result.{OnOk}
use Rattle.std.proofs.lemmas.List.{map-append, take_all}
use Rattle.std.proofs.lemmas.List.Concat.{flat_map-append}
use Rattle.package_core.specs.Card.{Card}
use Rattle.catalogue_lines.specs.Pieces.{Piece, piece_text, joined}

take_more : (xs : List Card) (i : ℕ) (p : Card) → slice_get xs i ≡ Some p → take (i + 1) xs ≡ take i xs ++ p ∷ []
take_more [] i p e = cc
take_more (x ∷ xs) zero p e = let same : x ≡ p = cc in ap (λ n. take n (x ∷ xs)) one ∙ ap (λ y. y ∷ []) same
  where
    one : 0 + 1 ≡ suc zero
    one = omega arith
take_more (x ∷ xs) (suc i) p e = ap (λ n. take n (x ∷ xs)) more ∙ ap (λ l. x ∷ l) (take_more xs i p e)
  where
    more : suc i + 1 ≡ suc (i + 1)
    more = omega arith

pub put_more : (f : Card → Piece) (xs : List Card) (i : ℕ) (p : Card) (o a b : List ℕ) → slice_get xs i ≡ Some p → a ≡ o ++ joined (map f (take i xs)) → b ≡ a ++ piece_text (f p) → b ≡ o ++ joined (map f (take (i + 1) xs))
put_more f xs i p o a b e g h =
    h ∙ ap (λ t. t ++ piece_text (f p)) g ∙ append_assoc o (joined (map f (take i xs))) (piece_text (f p)) ∙ ap (λ t. o ++ t) (sym more)
  where
    more : joined (map f (take (i + 1) xs)) ≡ joined (map f (take i xs)) ++ piece_text (f p)
    more = ap (λ l. joined (map f l)) (take_more xs i p e) ∙ ap joined (map-append f (take i xs) (p ∷ [])) ∙ flat_map-append piece_text (map f (take i xs)) (f p ∷ []) ∙ ap (λ t. joined (map f (take i xs)) ++ t) (append-nil (piece_text (f p)))

pub put_all : (f : Card → Piece) (xs : List Card) (n : ℕ) (o a : List ℕ) → length xs ≤ n → a ≡ o ++ joined (map f (take n xs)) → a ≡ o ++ joined (map f xs)
put_all f xs n o a le e = e ∙ ap (λ l. o ++ joined (map f l)) (take_all n xs le)

-- two pieces
pub two : {T E : Type 0} (r : Result T E) (o x z a b : List ℕ) → x ≡ o ++ a → OnOk r (z ≡ x ++ b) → OnOk r (z ≡ o ++ (a ++ (b ++ [])))
two (Ok t) o x z a b e f =
    f ∙ ap (λ t. t ++ b) e ∙ simp (append_assoc, append-nil)
two (Err t) o x z a b e f = tt

pub on_ok : {T E : Type 0} (r : Result T E) (P Q : Type 0) → (P → Q) → OnOk r P → OnOk r Q
on_ok (Ok t) P Q f h = f h
on_ok (Err e) P Q f h = tt

pub then_one : (o y z b c : List ℕ) → y ≡ o ++ b → z ≡ y ++ c → z ≡ o ++ (b ++ c)
then_one o y z b c e f = f ∙ ap (λ t. t ++ c) e ∙ append_assoc o b c

pub then_two : (o x y z a b c : List ℕ) → x ≡ o ++ a → y ≡ x ++ b → z ≡ y ++ c → z ≡ o ++ (a ++ (b ++ c))
then_two o x y z a b c e f g = then_one x y z b c f g ∙ ap (λ t. t ++ (b ++ c)) e ∙ append_assoc o a (b ++ c)

pub then_four : (o v w x y z a b c d k : List ℕ) → v ≡ o ++ a → w ≡ v ++ b → x ≡ w ++ c → y ≡ x ++ d → z ≡ y ++ k → z ≡ o ++ (a ++ (b ++ (c ++ (d ++ k))))
then_four o v w x y z a b c d k e f g h i = then_two w x y z c d k g h i ∙ ap (λ t. t ++ (c ++ (d ++ k))) (f ∙ ap (λ t. t ++ b) e ∙ append_assoc o a b) ∙ append_assoc o (a ++ b) (c ++ (d ++ k)) ∙ ap (λ t. o ++ t) (append_assoc a b (c ++ (d ++ k)))

pub join_four : (p q r s : List Piece) → joined (p ++ (q ++ (r ++ s))) ≡ joined p ++ (joined q ++ (joined r ++ joined s))
join_four p q r s =
    flat_map-append piece_text p (q ++ (r ++ s)) ∙ ap (λ t. joined p ++ t) (flat_map-append piece_text q (r ++ s) ∙ ap (λ t. joined q ++ t) (flat_map-append piece_text r s))
