-- Elements one by one.
use Rattle.std.proofs.Common.{◌≡◌, ◌≤◌, ℕ, zero, suc, Bool, true, false, not, ◌&&◌, ◌==◌, List, [], ◌∷◌, length, Option, Some, None, if◌then◌else◌, refl, ap, arith}
use Rattle.std.specs.Option.{IfSome}
use Rattle.shell_pattern.specs.Glob.{run, any_one, exactly, class_end, is_negation, behind_negation, class_or_itself, opened, escaped_one, first_element, elements, elements_of}

end_one_short : (b d : Bool) → IfSome (if b then None else if d then Some [] else None) (λ (rest : List ℕ). length rest ≤ 1)
end_one_short true d = tt
end_one_short false true = omega arith
end_one_short false false = tt

grown : (o : Option (List ℕ)) (n m : ℕ) → n ≤ m → IfSome o (λ rest. length rest ≤ n) → IfSome o (λ rest. length rest ≤ m)
grown None n m l h = tt
grown (Some rest) n m l h = omega arith

end_more_short : (b d : Bool) (e : ℕ) (es : List ℕ) → IfSome (class_end false es) (λ rest. length rest ≤ length es) → IfSome (class_end false (e ∷ es)) (λ rest. length rest ≤ length (e ∷ es)) → IfSome (if b then class_end false es else if d then Some (e ∷ es) else class_end false (e ∷ es)) (λ rest. length rest ≤ suc (length (e ∷ es)))
end_more_short true d e es h k = grown (class_end false es) (length es) (suc (length (e ∷ es))) (omega arith) h
end_more_short false true e es h k = omega arith
end_more_short false false e es h k = grown (class_end false (e ∷ es)) (length (e ∷ es)) (suc (length (e ∷ es))) (omega arith) k

end_short : (first : Bool) (cs : List ℕ) → IfSome (class_end first cs) (λ rest. length rest ≤ length cs)
end_short first [] = tt
end_short first (c ∷ []) = end_one_short (c == 92) (c == 93 && not first)
end_short first (c ∷ e ∷ es) = end_more_short (c == 92) (c == 93 && not first) e es (end_short false es) (end_short false (e ∷ es))

behind_short : (cs : List ℕ) → length (behind_negation cs) ≤ length cs
behind_short [] = omega arith
behind_short (c ∷ cs) = elim (is_negation c) as (λ b. length (if b then cs else c ∷ cs) ≤ suc (length cs)) [ true ↦ omega arith | false ↦ omega arith ]

class_short : (cs : List ℕ) (o : Option (List ℕ)) → IfSome o (λ rest. length rest ≤ length cs) → length (class_or_itself cs o).1 ≤ length cs
class_short cs None h = omega arith
class_short cs (Some rest) h = h

opened_short : (cs : List ℕ) → length (opened cs).1 ≤ length cs
opened_short cs = class_short cs (class_end true (behind_negation cs)) (grown (class_end true (behind_negation cs)) (length (behind_negation cs)) (length cs) (behind_short cs) (end_short true (behind_negation cs)))

escaped_short : (cs : List ℕ) → length (escaped_one cs).1 ≤ length cs
escaped_short [] = omega arith
escaped_short (c ∷ cs) = omega arith

first_short_by : (a b d f : Bool) (c : ℕ) (cs : List ℕ) → length (if a then (run, cs) else if b then (any_one, cs) else if d then escaped_one cs else if f then opened cs else (exactly c, cs)).1 ≤ length cs
first_short_by true b d f c cs = omega arith
first_short_by false true d f c cs = omega arith
first_short_by false false true f c cs = escaped_short cs
first_short_by false false false true c cs = opened_short cs
first_short_by false false false false c cs = omega arith

first_short : (c : ℕ) (cs : List ℕ) → length (first_element c cs).1 ≤ length cs
unfolding first_element
first_short c cs = first_short_by (c == 42) (c == 63) (c == 92) (c == 91) c cs

-- more room than a pattern has characters changes nothing
room : (n m : ℕ) (cs : List ℕ) → length cs ≤ n → length cs ≤ m → elements n cs ≡ elements m cs
room zero zero cs h k = refl
room zero (suc m) [] h k = refl
room zero (suc m) (c ∷ cs) h k = absurd (omega arith)
room (suc n) zero [] h k = refl
room (suc n) zero (c ∷ cs) h k = absurd (omega arith)
room (suc n) (suc m) [] h k = refl
room (suc n) (suc m) (c ∷ cs) h k =
    let short = first_short c cs in
    ap (λ es. (first_element c cs).0 ∷ es) (room n m (first_element c cs).1 (omega arith) (omega arith))

pub elements_none : elements_of [] ≡ []
unfolding elements_of
elements_none = refl

pub elements_step : (c : ℕ) (cs : List ℕ) → elements_of (c ∷ cs) ≡ (first_element c cs).0 ∷ elements_of (first_element c cs).1
unfolding elements_of
elements_step c cs =
    let short = first_short c cs in
    ap (λ es. (first_element c cs).0 ∷ es) (room (length cs) (length (first_element c cs).1) (first_element c cs).1 short (omega arith))
