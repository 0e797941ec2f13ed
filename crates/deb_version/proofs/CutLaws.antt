-- A part is its cuts, joined, and their runs take turns.
use Rattle.std.proofs.Common.{◌≡◌, ◌≢◌, ℕ, Bool, true, false, ◌&&◌, List, [], ◌∷◌, ◌++◌, refl, ap, ◌∙◌}
use Rattle.std.specs.List.{list_all}
use Rattle.deb_version.specs.Cuts.{Cut, is_digit, is_non_digit, with_front, cuts}
use Rattle.deb_version.specs.Spelling.{joined, IsCut, TakesTurns}

joined_digit : (c : ℕ) (run digits : List ℕ) (ps : List Cut) → is_digit c ≡ true → joined (with_front c (record { run = run; digits = digits } ∷ ps)) ≡ c ∷ (run ++ digits ++ joined ps)
joined_digit c [] digits ps h = simp h
joined_digit c (r ∷ rs) digits ps h = simp h

joined_by : (c : ℕ) (ps : List Cut) (b : Bool) → is_digit c ≡ b → joined (with_front c ps) ≡ c ∷ joined ps
joined_by c [] true h = simp h
joined_by c [] false h = simp h
joined_by c (p ∷ ps) false h = simp h
joined_by c (p ∷ ps) true h = joined_digit c p.run p.digits ps h

pub cuts_joined : (part : List ℕ) → joined (cuts part) ≡ part
cuts_joined [] = refl
cuts_joined (c ∷ cs) = joined_by c (cuts cs) (is_digit c) refl ∙ ap (λ l. c ∷ l) (cuts_joined cs)

non_digit : (c : ℕ) → is_digit c ≡ false → is_non_digit c ≡ true
non_digit c h = simp h

both : (a b : Bool) → a ≡ true → b ≡ true → (a && b) ≡ true
both a b p q = rw (p, q) refl

one_digit : (c : ℕ) (digits : List ℕ) → is_digit c ≡ true → list_all is_digit digits ≡ true → IsCut (record { run = []; digits = c ∷ digits })
one_digit c digits h g = record { run = refl; digits = both _ _ h g }

longer_run : (c : ℕ) (p : Cut) → is_digit c ≡ false → IsCut p → IsCut (record { run = c ∷ p.run; digits = p.digits })
longer_run c p h k = record { run = both _ _ (non_digit c h) k.run; digits = k.digits }

first_of : (p : Cut) (ps : List Cut) → TakesTurns (p ∷ ps) → IsCut p
first_of p [] t = t
first_of p (q ∷ ps) t = t.0

-- another first cut with the same digits, or with more of them
exchanged : (p q : Cut) (ps : List Cut) → IsCut q → (p.digits ≢ [] → q.digits ≢ []) → TakesTurns (p ∷ ps) → TakesTurns (q ∷ ps)
exchanged p q [] k more t = k
exchanged p q (r ∷ ps) k more t = (k, more t.1, t.2, t.3)

turns_digit : (c : ℕ) (run digits : List ℕ) (ps : List Cut) → is_digit c ≡ true → TakesTurns (record { run = run; digits = digits } ∷ ps) → TakesTurns (with_front c (record { run = run; digits = digits } ∷ ps))
turns_digit c [] digits ps h t = simp h (exchanged (record { run = []; digits = digits }) (record { run = []; digits = c ∷ digits }) ps (one_digit c digits h (first_of _ ps t).digits) (λ _ e. cc) t)
turns_digit c (r ∷ rs) digits ps h t = simp h (one_digit c [] h refl, (λ e. cc), (λ e. cc), t)

turns_by : (c : ℕ) (ps : List Cut) (b : Bool) → is_digit c ≡ b → TakesTurns ps → TakesTurns (with_front c ps)
turns_by c [] true h t = simp h (one_digit c [] h refl)
turns_by c [] false h t = simp h (longer_run c (record { run = []; digits = [] }) h (record { run = refl; digits = refl }))
turns_by c (p ∷ ps) false h t = simp h (exchanged p (record { run = c ∷ p.run; digits = p.digits }) ps (longer_run c p h (first_of p ps t)) (λ d. d) t)
turns_by c (p ∷ ps) true h t = turns_digit c p.run p.digits ps h t

pub cuts_turn : (part : List ℕ) → TakesTurns (cuts part)
cuts_turn [] = tt
cuts_turn (c ∷ cs) = turns_by c (cuts cs) (is_digit c) refl (cuts_turn cs)
