-- The order of texts, piece by piece.
use Rattle.std.proofs.Common.{◌≡◌, ℕ, ◌<◌, true, Option, Some, None, is_some, List, [], ◌∷◌, ◌++◌, length, take, drop, Ordering, Less, Equal, Greater, refl, ap, sym, ◌∙◌, arith, append_assoc}
use Rattle.std.specs.Option.{MatchOption}
use Rattle.std.specs.Ordering.{nat_cmp, ordering_then}
use Rattle.std.specs.Cmp.Lexicographic.{slice_cmp}
use Rattle.std.proofs.lemmas.Bool.Decides.{nat_tests}
use Rattle.std.proofs.lemmas.List.{take-append-drop, length-append}
use Rattle.control_stanza.specs.declared.stanza.Field.{Field}
use Rattle.control_stanza.specs.Written.{field_text, stanza_text}
use Rattle.package_core.specs.declared.bytes.Left.{Left}
use Rattle.package_core.specs.Left.{left, left as text_left, behind}

then_assoc : (a b c : Ordering) → ordering_then (ordering_then a b) c ≡ ordering_then a (ordering_then b c)
then_assoc Less b c = refl
then_assoc Equal b c = refl
then_assoc Greater b c = refl

-- fronts of one length are compared first
pub fronts_first : (xs ys us vs : List ℕ) → length xs ≡ length ys → slice_cmp nat_cmp (xs ++ us) (ys ++ vs) ≡ ordering_then (slice_cmp nat_cmp xs ys) (slice_cmp nat_cmp us vs)
fronts_first [] [] us vs e = refl
fronts_first [] (y ∷ ys) us vs e = cc
fronts_first (x ∷ xs) [] us vs e = cc
fronts_first (x ∷ xs) (y ∷ ys) us vs e = ap (ordering_then (nat_cmp x y)) (fronts_first xs ys us vs (omega arith)) ∙ sym (then_assoc (nat_cmp x y) (slice_cmp nat_cmp xs ys) (slice_cmp nat_cmp us vs))

equal_itself : (n : ℕ) → nat_cmp n n ≡ Equal
equal_itself n = grind (arith, nat_tests)

-- a front that both have decides nothing
front_passes : (xs us vs : List ℕ) → slice_cmp nat_cmp (xs ++ us) (xs ++ vs) ≡ slice_cmp nat_cmp us vs
front_passes [] us vs = refl
front_passes (x ∷ xs) us vs = ap (λ o. ordering_then o (slice_cmp nat_cmp (xs ++ us) (xs ++ vs))) (equal_itself x) ∙ front_passes xs us vs

text_append : (xs ys : List Field) → stanza_text (xs ++ ys) ≡ stanza_text xs ++ stanza_text ys
text_append [] ys = refl
text_append (x ∷ xs) ys = ap (λ (t : List ℕ). field_text x ++ t) (text_append xs ys) ∙ sym (append_assoc (field_text x) (stanza_text xs) (stanza_text ys))

cut_text : (n : ℕ) (xs : List Field) → stanza_text xs ≡ stanza_text (take n xs) ++ stanza_text (drop n xs)
cut_text n xs = ap stanza_text (sym (take-append-drop n xs)) ∙ text_append (take n xs) (drop n xs)

-- fields in front that both have decide nothing
pub fields_pass : (n : ℕ) (xs ys : List Field) → take n xs ≡ take n ys → slice_cmp nat_cmp (stanza_text (drop n xs)) (stanza_text (drop n ys)) ≡ slice_cmp nat_cmp (stanza_text xs) (stanza_text ys)
fields_pass n xs ys e =
    let front : stanza_text ys ≡ stanza_text (take n xs) ++ stanza_text (drop n ys) = cut_text n ys ∙ ap (λ (t : List Field). stanza_text t ++ stanza_text (drop n ys)) (sym e) in
    sym (front_passes (stanza_text (take n xs)) (stanza_text (drop n xs)) (stanza_text (drop n ys))) ∙ sym (λ i. slice_cmp nat_cmp (cut_text n xs i) (front i))

pub pieces_first : (xs ys front other here there us vs : List ℕ) (n : ℕ) (o : Ordering) → front ≡ take n xs → here ≡ drop n xs → other ≡ take n ys → there ≡ drop n ys → length front ≡ n → length other ≡ n → o ≡ slice_cmp nat_cmp front other → slice_cmp nat_cmp (xs ++ us) (ys ++ vs) ≡ ordering_then o (slice_cmp nat_cmp (here ++ us) (there ++ vs))
pieces_first xs ys front other here there us vs n o f h g t l m e =
    let one : xs ≡ front ++ here = sym (take-append-drop n xs) ∙ sym (λ i. f i ++ h i) in
    let two : ys ≡ other ++ there = sym (take-append-drop n ys) ∙ sym (λ i. g i ++ t i) in
    (λ i. slice_cmp nat_cmp (one i ++ us) (two i ++ vs))
    ∙ (λ i. slice_cmp nat_cmp (append_assoc front here us i) (append_assoc other there vs i))
    ∙ fronts_first front other (here ++ us) (there ++ vs) (l ∙ sym m)
    ∙ ap (λ p. ordering_then p (slice_cmp nat_cmp (here ++ us) (there ++ vs))) (sym e)

-- ---- where one of the texts is over
some_left : (l : Left) → 0 < length l.here.now → 0 < length (text_left l)
unfolding left
some_left l h = omega (arith, length-append l.here.now (behind l.part l.fields.now))

above_nothing : (xs ys : List ℕ) → 0 < length xs → ys ≡ [] → Greater ≡ slice_cmp nat_cmp xs ys
above_nothing [] ys h e = absurd (omega arith)
above_nothing (x ∷ xs) [] h e = refl
above_nothing (x ∷ xs) (y ∷ ys) h e = cc

below_something : (xs ys : List ℕ) → xs ≡ [] → 0 < length ys → Less ≡ slice_cmp nat_cmp xs ys
below_something [] [] e h = absurd (omega arith)
below_something [] (y ∷ ys) e h = refl
below_something (x ∷ xs) ys e h = cc

pub goes_on : (l : Left) (one other : List ℕ) → (text_left l ≡ one) × (0 < length l.here.now) → other ≡ [] → Greater ≡ slice_cmp nat_cmp one other
goes_on l one other h e = above_nothing one other (let some = some_left l h.1 in omega (arith, some, ap length h.0)) e

pub is_over : (o : Option Left) (one other : List ℕ) → one ≡ [] → MatchOption o (other ≡ []) (λ l. (text_left l ≡ other) × (0 < length l.here.now)) → is_some o ≡ true → Less ≡ slice_cmp nat_cmp one other
is_over None one other e h some = cc
is_over (Some l) one other e h some = below_something one other e (let more = some_left l h.1 in omega (arith, more, ap length h.0))
