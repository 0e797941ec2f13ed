-- Stanzas with one text are one.
use Rattle.std.proofs.Common.{◌≡◌, ℕ, true, List, [], ◌∷◌, ◌++◌, None, Result, Ok, refl, ap, sym}
use Rattle.control_stanza.specs.declared.stanza.Field.{Field}
use Rattle.control_stanza.specs.Lines.{lines_of}
use Rattle.control_stanza.specs.Fields.{is_stanza}
use Rattle.control_stanza.specs.Reading.{stanzas_from}
use Rattle.control_stanza.specs.Written.{stanza_text, field_text}
use Rattle.control_stanza.proofs.WriteLemmas.{text_reads}
use Rattle.control_stanza.proofs.Only.{only}

no_text : (f : Field) (fs : List Field) → stanza_text (f ∷ fs) ≡ [] → ⊥
unfolding field_text
no_text f fs h = some _ _ _ h
  where
    some : (name value rest : List ℕ) → name ++ 58 ∷ value ++ 10 ∷ [] ++ rest ≡ [] → ⊥
    some [] value rest h = cc
    some (c ∷ cs) value rest h = cc

read_one : (f : Field) (fs : List Field) → is_stanza (f ∷ fs) ≡ true → stanzas_from None 1 None (lines_of (stanza_text (f ∷ fs))) ≡ Ok ((1, f ∷ fs) ∷ [])
read_one f fs h = only None ((1, f ∷ fs) ∷ []) 1 _ (text_reads None (f ∷ fs) h (λ e. cc) refl)

pub one_of : {F : Type 0} (p q : ℕ × List Field) (r s : Result (List (ℕ × List Field)) F) → r ≡ Ok (p ∷ []) → s ≡ Ok (q ∷ []) → r ≡ s → p.1 ≡ q.1
one_of p q r s a b e = let h : p ≡ q = cc in ap (λ (t : ℕ × List Field). t.1) h

pub one_text : (xs ys : List Field) → is_stanza xs ≡ true → is_stanza ys ≡ true → stanza_text xs ≡ stanza_text ys → xs ≡ ys
one_text [] [] h g e = refl
one_text [] (y ∷ ys) h g e = absurd (no_text y ys (sym e))
one_text (x ∷ xs) [] h g e = absurd (no_text x xs e)
one_text (x ∷ xs) (y ∷ ys) h g e =
    one_of (1, x ∷ xs) (1, y ∷ ys) _ _ (read_one x xs h) (read_one y ys g) (ap (λ (t : List ℕ). stanzas_from None 1 None (lines_of t)) e)
