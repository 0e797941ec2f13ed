-- The length of the texts of some packages.
use Rattle.std.proofs.Common.{◌≡◌, ℕ, ◌+◌, ◌≤◌, ◌<◌, List, [], ◌∷◌, ◌++◌, length, take, drop, map, get_or, sym, ap, ◌∙◌, arith, take-append-drop, add_assoc}
use Rattle.package_core.specs.Card.{Card, package_text}
use Rattle.machine_state.specs.State.{text_length}
use Rattle.package_intake.proofs.ListLemmas.{next_taken}

text_append : (xs ys : List Card) → text_length (xs ++ ys) ≡ text_length xs + text_length ys
text_append [] ys = omega arith
text_append (x ∷ xs) ys = ap (λ n. length (package_text x) + n) (text_append xs ys) ∙ sym (add_assoc (length (package_text x)) (text_length xs) (text_length ys))

-- with the next package
pub text_next : {V : Type 0} (value : V → Card) (items : List V) (i : ℕ) (x : V) → i < length items → x ≡ get_or items i x → text_length (take (i + 1) (map value items)) ≡ text_length (take i (map value items)) + length (package_text (value x))
text_next value items i x l at =
    let more = text_append (take i (map value items)) (value x ∷ []) in
    let one = ap text_length (next_taken value items i x l at) in
    omega (arith, more, one)

-- the first are not longer than all
pub text_front : (xs : List Card) (i : ℕ) → text_length (take i xs) ≤ text_length xs
text_front xs i =
    let whole = ap text_length (take-append-drop i xs) in
    let parts = text_append (take i xs) (drop i xs) in
    omega (arith, whole, parts)
