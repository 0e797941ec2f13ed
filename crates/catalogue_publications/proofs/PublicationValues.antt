-- The values of the lines of a publication.
use Rattle.std.proofs.Common.{◌≡◌, ℕ, suc, ◌<◌, ◌^◌, Bool, true, false, nat_eq, length, List, [], ◌∷◌, Option, Some, None, IfSome, refl, sym, ap, ◌∙◌, arith, inl, inr}
use Rattle.std.specs.Prelude.{◌≢◌}
use Rattle.std.specs.Fmt.{decimal}
use Rattle.std.proofs.lemmas.Bool.{true≢false, cases_lt}
use Rattle.std.proofs.lemmas.Bool.Decides.{nat_tests}
use Rattle.catalogue_publications.specs.PublicationLines.{numeral}
use Rattle.catalogue_publications.specs.PublicationReading.{IsCount, has_form}
use Rattle.catalogue_publications.proofs.PublicationLineLemmas.{decimal_numeral, numeral_injective, numeral_form}

-- the number that was read
pub count_is : (digits : List ℕ) (n : ℕ) (r : Option ℕ) → IfSome r (λ k. digits ≡ decimal k) → IfSome r (λ k. k < 2 ^ 64) → (r ≡ None → (k : ℕ) → k < 2 ^ 64 → digits ≢ decimal k) → digits ≡ numeral n → IsCount n r
count_is digits n (Some k) found small none e = numeral_injective k n (decimal_numeral k small ∙ sym found ∙ e)
count_is digits n None found small none e = elim (cases_lt n (2 ^ 64)) [ inl l ↦ absurd (none refl n l (e ∙ decimal_numeral n l)) | inr l ↦ l ]

pub no_numeral : (written : List ℕ) (is : Bool) → is ≡ has_form written → is ≡ false → (n : ℕ) → written ≡ numeral n → ⊥
no_numeral written is h f n e = true≢false (sym (numeral_form n) ∙ ap has_form (sym e) ∙ sym h ∙ f)

pub no_length : {X : Type 0} (xs : List X) (is : Bool) → is ≡ nat_eq (length xs) 0 → is ≡ true → xs ≡ []
no_length [] is h t = refl
no_length (x ∷ xs) is h t = absurd (more (length xs) (sym h ∙ t))
  where
    more : (k : ℕ) → nat_eq (suc k) 0 ≡ true → ⊥
    more k h = grind (arith, nat_tests)
