-- The comma at the end of a word.
use Rattle.std.proofs.Common.{◌≡◌, ◌≢◌, ℕ, ◌+◌, ◌-◌, eqb, Bool, true, false, List, [], ◌∷◌, ◌++◌, length, take, get_or, refl, sym, ap, ◌∙◌, subst, Option, Some, None, MatchOption, Bor, arith, eqb-true, length-append}
use Rattle.std.proofs.Math.Seq.{take-append_seam, get_or-append_seam}
use Rattle.std.proofs.lemmas.List.{take_more, take_all}
use Rattle.command_words.specs.Commands.{ends_with_comma, without_last}

pub comma_found : (bs front : List ℕ) → bs ≡ front ++ (44 ∷ []) → (ends_with_comma bs ≡ true) × (front ≡ without_last bs)
comma_found bs front e =
    let P : List ℕ → Type 0 = λ b. (ends_with_comma b ≡ true) × (front ≡ without_last b) in
    let len : length (front ++ (44 ∷ [])) - 1 ≡ length front = omega (arith, length-append front (44 ∷ [])) in
    subst P (sym e) (ap (λ n. eqb (get_or (front ++ (44 ∷ [])) n 0) 44) len ∙ ap (λ c. eqb c 44) (get_or-append_seam front 44 [] 0), sym (ap (λ n. take n (front ++ (44 ∷ []))) len ∙ take-append_seam front (44 ∷ [])))

pub no_comma : (bs : List ℕ) → ((front : List ℕ) → bs ≢ front ++ (44 ∷ [])) → ends_with_comma bs ≡ false
no_comma [] h = refl
no_comma (b ∷ bs) h =
    let last = length (b ∷ bs) - 1 in
    let more : last + 1 ≡ length (b ∷ bs) = omega arith in
    let all = sym (take_all (last + 1) (b ∷ bs) (omega arith)) ∙ take_more (b ∷ bs) last 0 (omega arith) in
    chosen (take last (b ∷ bs)) (get_or (b ∷ bs) last 0) (b ∷ bs) h all (eqb (get_or (b ∷ bs) last 0) 44) refl where
      chosen : (front : List ℕ) (c : ℕ) (all : List ℕ) → ((f : List ℕ) → all ≢ f ++ (44 ∷ [])) → all ≡ front ++ (c ∷ []) → (r : Bool) → eqb c 44 ≡ r → r ≡ false
      chosen front c all h e true t = absurd (h front (e ∙ ap (λ d. front ++ (d ∷ [])) (eqb-true c 44 t)))
      chosen front c all h e false t = refl

pub comma_stripped : (bs : List ℕ) (r : Option (Bor (List ℕ))) → MatchOption r ((front : List ℕ) → bs ≢ front ++ (44 ∷ [])) (λ x. bs ≡ x.now ++ (44 ∷ [])) → MatchOption r (ends_with_comma bs ≡ false) (λ w. (ends_with_comma bs ≡ true) × (w.now ≡ without_last bs))
comma_stripped bs None h = no_comma bs h
comma_stripped bs (Some x) h = comma_found bs x.now h
