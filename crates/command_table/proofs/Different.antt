-- How many different texts references show.
use Rattle.std.proofs.Common.{◌≡◌, ℕ, Bool, true, false, cond, List, [], ◌∷◌, map, length, refl, ap, suc, Bor}
use Rattle.std.proofs.lemmas.Cmp.{nat_list_eq_equiv}
use Rattle.std.specs.Cmp.{IsEquivalence}
use Rattle.std.specs.Set.{distinct_count, unique_keys}
use Rattle.std.specs.Str.{bytes_eq}
use Rattle.command_table.proofs.Rows.{list_any-map}

abbrev pub same_text : Bor (List ℕ) → Bor (List ℕ) → Bool
same_text a b = bytes_eq a.now b.now

pub same_text_equiv : IsEquivalence same_text
same_text_equiv = record { refl = λ x. nat_list_eq_equiv.refl x.now; symm = λ x y. nat_list_eq_equiv.symm x.now y.now; congr = λ x y z. nat_list_eq_equiv.congr x.now y.now z.now }

kept : {A B : Type 0} (b c : Bool) (x : A) (y : B) (us : List A) (vs : List B) → b ≡ c → length us ≡ length vs → length (cond b us (x ∷ us)) ≡ length (cond c vs (y ∷ vs))
kept true true x y us vs e h = h
kept true false x y us vs e h = cc
kept false true x y us vs e h = cc
kept false false x y us vs e h = ap suc h

pub distinct_count-shown : (xs : List (Bor (List ℕ))) → distinct_count same_text xs ≡ distinct_count bytes_eq (map (λ r. r.now) xs)
distinct_count-shown [] = refl
distinct_count-shown (x ∷ xs) = kept _ _ x x.now (unique_keys same_text xs) (unique_keys bytes_eq (map (λ r. r.now) xs)) (list_any-map (λ r. r.now) (bytes_eq x.now) xs) (distinct_count-shown xs)
