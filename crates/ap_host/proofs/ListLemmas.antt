-- Where a cut of two lists in a row falls.
use Rattle.std.proofs.Common.{◌≡◌, ◌⊎◌, inl, inr, arith, subst, add-one, Result, Ok, Err, OnOk, IfOk, ℕ, zero, suc, drop, ◌<◌, ◌-◌, ◌+◌, List, [], ◌∷◌, ◌++◌, length, take, get_or, refl, sym, ◌∙◌, ap}
use Rattle.std.proofs.lemmas.List.{take_more, take_all, length-drop}

-- in the first list, or in the second
pub cut : {A : Type 0} (before after xs ys : List A) → before ++ after ≡ xs ++ ys
    → ((d : List A) × (before ++ d ≡ xs) × (after ≡ d ++ ys)) ⊎ ((d : List A) × (before ≡ xs ++ d) × (d ++ after ≡ ys))
cut [] after xs ys e = inl (xs, refl, e)
cut (b ∷ bs) after [] ys e = inr (b ∷ bs, refl, e)
cut (b ∷ bs) after (x ∷ xs) ys e =
    let head : b ≡ x = cc in
    let tail : bs ++ after ≡ xs ++ ys = cc in
    elim (cut bs after xs ys tail) [
      | inl w ↦ inl (w.0, (let p : bs ++ w.0 ≡ xs = w.1 in cc), w.2)
      | inr w ↦ inr (w.0, (let p : bs ≡ xs ++ w.0 = w.1 in cc), w.2)
    ]

-- the element behind the cut belongs to the first list, or to the second
pub cut_at : {A : Type 0} (before : List A) (x : A) (after xs ys : List A) → before ++ x ∷ after ≡ xs ++ ys
    → ((d : List A) × (before ++ x ∷ d ≡ xs)) ⊎ ((d : List A) × (before ≡ xs ++ d) × (d ++ x ∷ after ≡ ys))
cut_at [] x after [] ys e = inr ([], refl, e)
cut_at [] x after (y ∷ xs) ys e = inl (xs, (let head : x ≡ y = cc in cc))
cut_at (b ∷ bs) x after [] ys e = inr (b ∷ bs, refl, e)
cut_at (b ∷ bs) x after (y ∷ xs) ys e =
    let head : b ≡ y = cc in
    let tail : bs ++ x ∷ after ≡ xs ++ ys = cc in
    elim (cut_at bs x after xs ys tail) [
      | inl w ↦ inl (w.0, (let p : bs ++ x ∷ w.0 ≡ xs = w.1 in cc))
      | inr w ↦ inr (w.0, (let p : bs ≡ xs ++ w.0 = w.1 in cc), w.2)
    ]

-- one element more is taken
pub took : {A : Type 0} (xs : List A) (i : ℕ) (e : A) → i < length xs → e ≡ get_or xs i e → take (i + 1) xs ≡ take i xs ++ e ∷ []
took xs i e lt is = take_more xs i e lt ∙ ap (λ x. take i xs ++ x ∷ []) (sym is)

-- a list, cut round one element
pub round : {A : Type 0} (xs : List A) (i : ℕ) (e : A) → i < length xs → e ≡ get_or xs i e → xs ≡ take i xs ++ e ∷ drop (i + 1) xs
round {A = A} xs i e lt is = subst (λ (k : ℕ). xs ≡ take i xs ++ e ∷ drop k xs) (sym (add-one i)) (go xs i lt is)
  where
    go : (ys : List A) (k : ℕ) → k < length ys → e ≡ get_or ys k e → ys ≡ take k ys ++ e ∷ drop (suc k) ys
    go [] k l h = absurd (omega arith)
    go (y ∷ ys) zero l h = ap (λ z. z ∷ ys) (sym h)
    go (y ∷ ys) (suc k) l h = ap (λ zs. y ∷ zs) (go ys k (omega arith) h)

-- what follows from a result that is Ok
pub on_ok : {T E P Q : Type 0} (r : Result T E) → (P → Q) → OnOk r P → OnOk r Q
on_ok (Ok v) f p = f p
on_ok (Err e) f p = tt

-- of its value
pub if_ok : {T E : Type 0} (P Q : T → Type 0) (r : Result T E) → ((v : T) → P v → Q v) → IfOk r P → IfOk r Q
if_ok P Q (Ok v) f p = f v p
if_ok P Q (Err e) f p = tt

-- all that is left behind a place
pub rest : {A : Type 0} (xs : List A) (n : ℕ) → take (length xs - n) (drop n xs) ≡ drop n xs
rest xs n = take_all (length xs - n) (drop n xs) (omega (arith, length-drop n xs))
