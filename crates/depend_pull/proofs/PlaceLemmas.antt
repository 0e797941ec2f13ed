-- Places one after the other.
use Rattle.std.proofs.Common.{◌≡◌, ◌<◌, ℕ, zero, suc, List, [], ◌∷◌, ◌++◌, length, refl, ap, sym, ◌∙◌, map, take, ◌+◌, add-one, arith, get_or}
use Rattle.std.specs.List.{flat_map}

pub behind_nothing : {X : Type 0} (xs : List X) → xs ++ [] ≡ xs
behind_nothing [] = refl
behind_nothing (x ∷ xs) = ap (λ l. x ∷ l) (behind_nothing xs)

pub together : {X : Type 0} (xs ys zs : List X) → (xs ++ ys) ++ zs ≡ xs ++ (ys ++ zs)
together [] ys zs = refl
together (x ∷ xs) ys zs = ap (λ l. x ∷ l) (together xs ys zs)

-- what is made of a list and of one behind it
pub made_behind : {X Y : Type 0} (f : X → List Y) (xs : List X) (y : X) → flat_map f (xs ++ y ∷ []) ≡ flat_map f xs ++ f y
made_behind f [] y = behind_nothing (f y)
made_behind f (x ∷ xs) y = ap (λ l. f x ++ l) (made_behind f xs y) ∙ sym (together (f x) (flat_map f xs) (f y))

-- what is made of two lists
pub made_of_both : {X Y : Type 0} (f : X → List Y) (xs ys : List X) → flat_map f (xs ++ ys) ≡ flat_map f xs ++ flat_map f ys
made_of_both f [] ys = refl
made_of_both f (x ∷ xs) ys = ap (λ l. f x ++ l) (made_of_both f xs ys) ∙ sym (together (f x) (flat_map f xs) (flat_map f ys))

-- four parts one behind the other, the first two of one each
pub in_four : {X Y : Type 0} (f : X → List Y) (a b : X) (xs ys : List X) → ((f a ++ f b) ++ flat_map f xs) ++ flat_map f ys ≡ flat_map f (a ∷ b ∷ (xs ++ ys))
in_four f a b xs ys =
    together (f a ++ f b) (flat_map f xs) (flat_map f ys)
    ∙ together (f a) (f b) (flat_map f xs ++ flat_map f ys)
    ∙ ap (λ l. f a ++ (f b ++ l)) (sym (made_of_both f xs ys))

one_more_suc : {A B : Type 0} (f : A → B) (xs : List A) (i : ℕ) (x : A) → i < length xs → x ≡ get_or xs i x → map f (take (suc i) xs) ≡ map f (take i xs) ++ f x ∷ []
one_more_suc f [] i x lt e = absurd (omega (lt, arith))
one_more_suc f (y ∷ ys) zero x lt e = ap (λ z. f z ∷ []) (sym e)
one_more_suc f (y ∷ ys) (suc i) x lt e = ap (λ l. f y ∷ l) (one_more_suc f ys i x (omega (lt, arith)) e)

-- the members up to one more
pub one_more : {A B : Type 0} (f : A → B) (xs : List A) (i : ℕ) (x : A) → i < length xs → x ≡ get_or xs i x → map f (take (i + 1) xs) ≡ map f (take i xs) ++ f x ∷ []
one_more f xs i x lt e = ap (λ n. map f (take n xs)) (add-one i) ∙ one_more_suc f xs i x lt e
