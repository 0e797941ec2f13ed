-- A stanza without the fields that speak of the file.
use Rattle.std.proofs.Common.{◌≡◌, ℕ, Bool, true, false, not, ◌&&◌, ◌||◌, cond, List, [], ◌∷◌, codes, refl, ap, sym, ◌∙◌}
use Rattle.std.specs.List.{filter}
use Rattle.std.proofs.lemmas.List.Elements.{filter_agree}
use Rattle.control_stanza.specs.declared.stanza.Field.{Field}
use Rattle.control_stanza.specs.Fields.{same_name, without_name}
use Rattle.package_core.specs.Fields.{is_of_file, own_fields}

filter_step : {X : Type 0} (p q : X → Bool) (x : X) (xs : List X) (b c : Bool) → b ≡ q x → c ≡ p x → filter p (filter q xs) ≡ filter (λ y. q y && p y) xs → filter p (cond b (x ∷ filter q xs) (filter q xs)) ≡ cond (b && c) (x ∷ filter (λ y. q y && p y) xs) (filter (λ y. q y && p y) xs)
filter_step p q x xs true true e f h = ap (λ v. cond v (x ∷ filter p (filter q xs)) (filter p (filter q xs))) (sym f) ∙ ap (λ l. x ∷ l) h
filter_step p q x xs true false e f h = ap (λ v. cond v (x ∷ filter p (filter q xs)) (filter p (filter q xs))) (sym f) ∙ h
filter_step p q x xs false c e f h = h

pub filter-filter : {X : Type 0} (p q : X → Bool) (xs : List X) → filter p (filter q xs) ≡ filter (λ y. q y && p y) xs
filter-filter p q [] = refl
filter-filter p q (x ∷ xs) = filter_step p q x xs (q x) (p x) refl refl (filter-filter p q xs)

abbrev others : (Field → Bool) → List ℕ → Field → Bool
others t name f = t f && not (same_name f.name name)

one_more : (t : Field → Bool) (fields : List Field) (name : List ℕ) → without_name (filter t fields) name ≡ filter (others t name) fields
unfolding without_name
one_more t fields name = filter-filter (λ f. not (same_name f.name name)) t fields

then_more : (t : Field → Bool) (fields left : List Field) (name : List ℕ) → left ≡ filter t fields → without_name left name ≡ filter (others t name) fields
then_more t fields left name e = ap (λ (l : List Field). without_name l name) e ∙ one_more t fields name

none_of : (a b c d e g : Bool) → (not a && not b && not c && not d && not e && not g) ≡ not (a || b || c || d || e || g)
none_of true b c d e g = refl
none_of false true c d e g = refl
none_of false false true d e g = refl
none_of false false false true e g = refl
none_of false false false false true g = refl
none_of false false false false false g = refl

-- six fields taken away one after another
pub six_gone : (fields : List Field) → without_name (without_name (without_name (without_name (without_name (without_name fields (codes "Filename")) (codes "Size")) (codes "MD5sum")) (codes "SHA1")) (codes "SHA256")) (codes "SHA512") ≡ own_fields fields
unfolding without_name own_fields
six_gone fields =
    let t1 = λ (f : Field). not (same_name f.name (codes "Filename")) in
    let t2 = others t1 (codes "Size") in
    let t3 = others t2 (codes "MD5sum") in
    let t4 = others t3 (codes "SHA1") in
    let t5 = others t4 (codes "SHA256") in
    let t6 = others t5 (codes "SHA512") in
    let e2 = then_more t1 fields (filter t1 fields) (codes "Size") refl in
    let e3 = then_more t2 fields _ (codes "MD5sum") e2 in
    let e4 = then_more t3 fields _ (codes "SHA1") e3 in
    let e5 = then_more t4 fields _ (codes "SHA256") e4 in
    let e6 = then_more t5 fields _ (codes "SHA512") e5 in
    e6 ∙ filter_agree t6 (λ f. not (is_of_file f.name)) (λ f. none_of (same_name f.name (codes "Filename")) (same_name f.name (codes "Size")) (same_name f.name (codes "MD5sum")) (same_name f.name (codes "SHA1")) (same_name f.name (codes "SHA256")) (same_name f.name (codes "SHA512"))) fields

pub gone_in_turn : (fields a b c d e f g : List Field) → a ≡ fields → b ≡ without_name a (codes "Filename") → c ≡ without_name b (codes "Size") → d ≡ without_name c (codes "MD5sum") → e ≡ without_name d (codes "SHA1") → f ≡ without_name e (codes "SHA256") → g ≡ without_name f (codes "SHA512") → g ≡ own_fields fields
gone_in_turn fields a b c d e f g h1 h2 h3 h4 h5 h6 h7 = let h = six_gone fields in cc
