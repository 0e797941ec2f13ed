-- Words have one usage place at most.
use Rattle.std.proofs.Common.{◌≡◌, ℕ, ◌+◌, ◌<◌, Bool, true, List, ◌∷◌, ◌++◌, length, take, drop, get_or, sym, ap, ◌∙◌, subst, arith, inl, inr, Option, Some, None, is_some, append_assoc}
use Rattle.std.proofs.Math.ListN.{get_or-append}
use Rattle.std.proofs.Math.Seq.{get_or-append_seam}
use Rattle.std.proofs.lemmas.Bool.{false≢true}
use Rattle.std.proofs.lemmas.List.{take-take, take-append-drop}
use Rattle.std.specs.Prelude.{MatchOption}
use Rattle.command_words.specs.Commands.{Part, cut, after_task_run, IsLongestFront, is_readable, IsPartFault, IsListFault, IsUsagePlace}
use Rattle.command_value.specs.Plain.{Words}
use Rattle.command_words.specs.Spelled.{is_command}

-- ---- the longest front

shorter_front : (reads : Words → Bool) (ws : Words) (p q : ℕ) → IsLongestFront reads ws p → IsLongestFront reads ws q → p < q → ⊥
shorter_front reads ws p q h k small =
    let z = take q ws in
    let front = take-take (p + 1) q ws (omega arith) in
    let rest = k.1.0 in
    let same = sym (append_assoc (take (p + 1) ws) (drop (p + 1) z) rest) ∙ ap (λ a. a ++ rest) (ap (λ t. t ++ drop (p + 1) z) (sym front) ∙ take-append-drop (p + 1) z) in
    h.2 (omega (arith, k.0)) (drop (p + 1) z ++ rest, ap reads same ∙ k.1.1)

equal_numbers : (p q : ℕ) → (p < q → ⊥) → (q < p → ⊥) → p ≡ q
equal_numbers p q h k = omega arith

one_longest : (reads : Words → Bool) (ws : Words) (p q : ℕ) → IsLongestFront reads ws p → IsLongestFront reads ws q → p ≡ q
one_longest reads ws p q h k = equal_numbers p q (shorter_front reads ws p q h k) (shorter_front reads ws q p k h)

-- ---- the first command at fault

at_seam : (parts front : List Part) (p : Part) (back : List Part) (d : Part) → parts ≡ front ++ p ∷ back → get_or parts (length front) d ≡ p
at_seam parts front p back d e = ap (λ ps. get_or ps (length front) d) e ∙ get_or-append_seam front p back d

fault_not_read : (n m : ℕ) (p q : Part) (i j : ℕ) → n < m → IsPartFault n p i → IsPartFault m q j → is_command p.words ≡ true → ⊥
fault_not_read n m p q i j small (inl h) (inl k) read = omega (arith, h.0, k.0)
fault_not_read n m p q i j small (inl h) (inr k) read = omega (arith, h.0, k.0)
fault_not_read n m p q i j small (inr h) k read = false≢true (sym (ap is_some h.1.0) ∙ read)

earlier : (parts : List Part) (i j : ℕ) (h : IsListFault parts i) (k : IsListFault parts j) → length h.0 < length k.0 → ⊥
earlier parts i j h k small =
    let n = length h.0 in
    let here = sym (at_seam parts h.0 h.1 h.2 h.1 h.3) ∙ ap (λ ps. get_or ps n h.1) k.3 ∙ get_or-append k.0 (k.1 ∷ k.2) h.1 n small in
    fault_not_read n (length k.0) h.1 k.1 i j small h.5 k.5 (ap (λ (p : Part). is_command p.words) here ∙ k.4 n h.1 small)

same_place : (n : ℕ) (p : Part) (i j : ℕ) → IsPartFault n p i → IsPartFault n p j → i ≡ j
same_place n p i j (inl h) (inl k) = h.1 ∙ sym k.1
same_place n p i j (inl h) (inr k) = absurd (omega (arith, h.0, k.0))
same_place n p i j (inr h) (inl k) = absurd (omega (arith, h.0, k.0))
same_place n p i j (inr h) (inr k) =
    let a = h.1.1 in
    let b = k.1.1 in
    a.1 ∙ ap (λ m. p.start + m) (one_longest is_command p.words a.0 b.0 a.2 b.2) ∙ sym b.1

one_in_list : (parts : List Part) (i j : ℕ) → IsListFault parts i → IsListFault parts j → i ≡ j
one_in_list parts i j h k =
    let len = equal_numbers (length h.0) (length k.0) (earlier parts i j h k) (earlier parts j i k h) in
    let part = sym (at_seam parts h.0 h.1 h.2 h.1 h.3) ∙ ap (λ n. get_or parts n h.1) len ∙ at_seam parts k.0 k.1 k.2 h.1 k.3 in
    let P : ℕ → Type 0 = λ n. IsPartFault n h.1 i in
    let Q : Part → Type 0 = λ p. IsPartFault (length k.0) p i in
    same_place (length k.0) k.1 i j (subst Q part (subst P len h.5)) k.5

-- ---- the words

chosen : (words : Words) (o : Option Words) (i j : ℕ) → MatchOption o (IsLongestFront is_readable words i) (λ rest. IsListFault (cut 2 rest) i) → MatchOption o (IsLongestFront is_readable words j) (λ rest. IsListFault (cut 2 rest) j) → i ≡ j
chosen words None i j h k = one_longest is_readable words i j h k
chosen words (Some rest) i j h k = one_in_list (cut 2 rest) i j h k

pub one_place : (words : Words) (i j : ℕ) → IsUsagePlace words i → IsUsagePlace words j → i ≡ j
one_place words i j h k = chosen words (after_task_run words) i j h.1 k.1
