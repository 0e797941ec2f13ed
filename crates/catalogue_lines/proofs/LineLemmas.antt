-- Lines, from the front of a text.
use Rattle.std.proofs.Common.{◌≡◌, inl, inr, ℕ, suc, zero, ◌<◌, true, false, List, [], ◌∷◌, ◌++◌, length, take, drop, get_or, refl, sym, ap, ◌∙◌, subst, arith, append-nil, rules}
use Rattle.std.specs.Bool.{◌==◌}
use Rattle.std.specs.List.{list_any}
use Rattle.std.specs.Str.{bytes_eq}
use Rattle.std.proofs.lemmas.Slice.Eq.{bytes_eq-Decides}
use Rattle.std.proofs.lemmas.Bool.{or_parts}
use Rattle.std.proofs.lemmas.List.{take-append-drop}
use Rattle.std.proofs.Math.Seq.{take-append_seam}
use Rattle.catalogue_lines.specs.Lines.{IsPlain, IsLine, is_ended}

pub line_then : (text line rest more : List ℕ) (n c : ℕ) → line ≡ take n text → rest ≡ drop n text → rest ≡ c ∷ more → c ≡ 10 → IsPlain (take n text) → IsLine text line more
line_then text line rest more n c e f g h none = record {
  plain = subst IsPlain (sym e) none;
  ended = inl (sym (take-append-drop n text) ∙ (λ i. sym e i ++ (sym f ∙ g ∙ ap (λ x. x ∷ more) h) i));
}

pub line_alone : (text line rest : List ℕ) (n : ℕ) → line ≡ take n text → rest ≡ drop n text → rest ≡ [] → (text ≡ [] → ⊥) → IsPlain (take n text) → IsLine text line rest
line_alone text line rest n e f g ne none =
    let whole : text ≡ line = sym (take-append-drop n text) ∙ (λ i. sym e i ++ (sym f ∙ g) i) ∙ append-nil line in
    record {
      plain = subst IsPlain (sym e) none;
      ended = inr (whole, g, λ z. ne (whole ∙ z));
    }

pub first_of_drop : (text : List ℕ) (n c : ℕ) (more : List ℕ) → drop n text ≡ c ∷ more → (n < length text) × (get_or text n 0 ≡ c)
first_of_drop [] zero c more h = cc
first_of_drop [] (suc n) c more h = cc
first_of_drop (x ∷ xs) zero c more h = (omega arith, cc)
first_of_drop (x ∷ xs) (suc n) c more h = let p = first_of_drop xs n c more h in (omega arith, p.1)

pub same_bytes : (a b : List ℕ) → bytes_eq a b ≡ true → a ≡ b
same_bytes a b e = search (rules, bytes_eq-Decides)

pub equal_bytes : (k : List ℕ) → bytes_eq k k ≡ true
equal_bytes k = search (rules, bytes_eq-Decides)

-- a text that ends with a byte
pub ended_push : (bs : List ℕ) (b : ℕ) → is_ended (bs ++ b ∷ []) ≡ (b == 10)
ended_push [] b = refl
ended_push (c ∷ []) b = refl
ended_push (c ∷ d ∷ ds) b = ended_push (d ∷ ds) b

-- what stands behind a key
pub behind_some : (text key rest : List ℕ) → bytes_eq (take (length key) text) key ≡ true → rest ≡ drop (length key) text → text ≡ key ++ rest
behind_some text key rest e f =
    sym (take-append-drop (length key) text) ∙ (λ i. same_bytes (take (length key) text) key e i ++ sym f i)

pub behind_none : (text key : List ℕ) → bytes_eq (take (length key) text) key ≡ false → (rest : List ℕ) → text ≡ key ++ rest → ⊥
behind_none text key e rest f =
    let t : take (length key) text ≡ key = ap (take (length key)) f ∙ take-append_seam key rest in
    let same : bytes_eq key key ≡ true = equal_bytes key in cc

-- ---- a text has one first line
pub plain_cut : (a b r s : List ℕ) → IsPlain a → IsPlain b → a ++ 10 ∷ r ≡ b ++ 10 ∷ s → (a ≡ b) × (r ≡ s)
plain_cut [] [] r s p q e = (refl, cc)
plain_cut [] (y ∷ ys) r s p q e = let h : 10 ≡ y = cc in absurd (apart y (or_parts (y == 10) (list_any (λ c. c == 10) ys) q).0 h)
  where
    apart : (y : ℕ) → (y == 10) ≡ false → 10 ≡ y → ⊥
    apart y h e = let t : (10 == 10) ≡ false = ap (λ z. z == 10) e ∙ h in cc
plain_cut (x ∷ xs) [] r s p q e = let h : x ≡ 10 = cc in absurd (apart x (or_parts (x == 10) (list_any (λ c. c == 10) xs) p).0 h)
  where
    apart : (y : ℕ) → (y == 10) ≡ false → y ≡ 10 → ⊥
    apart y h e = let t : (10 == 10) ≡ false = ap (λ z. z == 10) (sym e) ∙ h in cc
plain_cut (x ∷ xs) (y ∷ ys) r s p q e =
    let t = plain_cut xs ys r s (or_parts (x == 10) (list_any (λ c. c == 10) xs) p).1 (or_parts (y == 10) (list_any (λ c. c == 10) ys) q).1 cc in
    let h : x ≡ y = cc in
    ((λ i. h i ∷ t.0 i), t.1)

not_plain : (a r : List ℕ) → IsPlain (a ++ 10 ∷ r) → ⊥
not_plain [] r p = cc
not_plain (x ∷ xs) r p = not_plain xs r (or_parts (x == 10) (list_any (λ c. c == 10) (xs ++ 10 ∷ r)) p).1

pub line_unique : (text a b r s : List ℕ) → IsLine text a r → IsLine text b s → (a ≡ b) × (r ≡ s)
line_unique text a b r s h g =
    elim h.ended [
      | inl e ↦ elim g.ended [
        | inl f ↦ plain_cut a b r s h.plain g.plain (sym e ∙ f)
        | inr f ↦ absurd (not_plain a r (subst IsPlain (sym f.0 ∙ e) g.plain))
      ]
      | inr e ↦ elim g.ended [
        | inl f ↦ absurd (not_plain b s (subst IsPlain (sym e.0 ∙ f) h.plain))
        | inr f ↦ (sym e.0 ∙ f.0, e.1 ∙ sym f.1)
      ]
    ]

-- an empty text has no line
pub no_line : (line rest : List ℕ) → IsLine [] line rest → ⊥
no_line line rest h = elim h.ended [ inl e ↦ nothing line e | inr e ↦ e.2 (sym e.0) ]
  where
    nothing : (line : List ℕ) → [] ≡ line ++ 10 ∷ rest → ⊥
    nothing [] e = cc
    nothing (x ∷ xs) e = cc

pub no_line_in : (text line rest : List ℕ) → text ≡ [] → IsLine text line rest → ⊥
no_line_in text line rest e h = no_line line rest (subst (λ (t : List ℕ). IsLine t line rest) e h)

pub other_line : (text a r line behind : List ℕ) → IsLine text a r → (a ≡ line → ⊥) → IsLine text line behind → ⊥
other_line text a r line behind h ne g = ne (line_unique text a line r behind h g).0

pub same_line : (text a r line : List ℕ) → IsLine text a r → a ≡ line → IsLine text line r
same_line text a r line h e = subst (λ (l : List ℕ). IsLine text l r) e h
