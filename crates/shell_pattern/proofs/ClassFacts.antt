-- Classes step by step.
use Rattle.std.proofs.Common.{◌≡◌, ℕ, Bool, true, false, not, ◌&&◌, ◌||◌, ◌==◌, List, [], ◌∷◌, Some, None, if◌then◌else◌, refl, ap, subst, sym}
use Rattle.std.proofs.lemmas.Bool.{and_parts, eqb-true, not-true}
use Rattle.shell_pattern.specs.declared.letter.Letter.{Letter}
use Rattle.shell_pattern.specs.Glob.{plain, escaped, class_end, class_letters, is_dash, is_in}
use Rattle.shell_pattern.specs.GlobReading.{letter, end, missing, letter_at, end_from, letters_from}

end_one : (b d : Bool) (c : ℕ) → (if b then None else if d then Some [] else None) ≡ end_from (if b then missing else if d then end [] else letter (plain c) [])
end_one true d c = refl
end_one false true c = refl
end_one false false c = refl

end_more : (b d : Bool) (c e : ℕ) (es : List ℕ) → (if b then class_end false es else if d then Some (e ∷ es) else class_end false (e ∷ es)) ≡ end_from (if b then letter (escaped e) es else if d then end (e ∷ es) else letter (plain c) (e ∷ es))
end_more true d c e es = refl
end_more false true c e es = refl
end_more false false c e es = refl

pub end_step : (first : Bool) (cs : List ℕ) → class_end first cs ≡ end_from (letter_at first cs)
end_step first [] = refl
end_step first (c ∷ []) = end_one (c == 92) (c == 93 && not first) c
end_step first (c ∷ e ∷ es) = end_more (c == 92) (c == 93 && not first) c e es

letters_one : (b d : Bool) (c : ℕ) → (if b then [] else if d then [] else plain c ∷ []) ≡ letters_from (if b then missing else if d then end [] else letter (plain c) [])
letters_one true d c = refl
letters_one false true c = refl
letters_one false false c = refl

letters_more : (b d : Bool) (c e : ℕ) (es : List ℕ) → (if b then escaped e ∷ class_letters false es else if d then [] else plain c ∷ class_letters false (e ∷ es)) ≡ letters_from (if b then letter (escaped e) es else if d then end (e ∷ es) else letter (plain c) (e ∷ es))
letters_more true d c e es = refl
letters_more false true c e es = refl
letters_more false false c e es = refl

pub letters_step : (first : Bool) (cs : List ℕ) → class_letters first cs ≡ letters_from (letter_at first cs)
letters_step first [] = refl
letters_step first (c ∷ []) = letters_one (c == 92) (c == 93 && not first) c
letters_step first (c ∷ e ∷ es) = letters_more (c == 92) (c == 93 && not first) c e es

-- a letter that no `-` follows is a member by itself
pub single_step : (a l : Letter) (ls : List Letter) (c : ℕ) → is_dash l ≡ false → is_in (a ∷ l ∷ ls) c ≡ (c == a.character || is_in (l ∷ ls) c)
single_step a l [] c h = refl
single_step a l (d ∷ ls) c h = rw h refl

dash_is : (l : Letter) → is_dash l ≡ true → l ≡ plain 45
dash_is l h =
    let parts = and_parts (l.character == 45) (not l.escaped) h in
    let code : l.character ≡ 45 = eqb-true _ _ parts.0 in
    let free : l.escaped ≡ false = not-true l.escaped parts.1 in
    (let P : ℕ → Bool → Type 0 = λ n b. l ≡ record { character = n; escaped = b } in subst (λ n. P n false) code (subst (λ b. P l.character b) free refl))

pub dash_step : (a l : Letter) (ls : List Letter) (c : ℕ) → is_dash l ≡ true → is_in (a ∷ plain 45 ∷ ls) c ≡ is_in (a ∷ l ∷ ls) c
dash_step a l ls c h = ap (λ d. is_in (a ∷ d ∷ ls) c) (sym (dash_is l h))
