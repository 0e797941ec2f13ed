-- The three kinds of word that begin a term exclude each other, and a reference is cut at its first two `_`.
use Rattle.std.proofs.Common.{◌≡◌, inl, inr, ℕ, suc, ◌+◌, ◌<◌, ◌==◌, Bool, true, false, cond, not, ◌&&◌, List, [], ◌∷◌, ◌++◌, length, get_or, take, codes, refl, sym, ap, ◌∙◌, subst, arith}
use Rattle.std.specs.Str.{bytes_eq}
use Rattle.std.specs.List.{before_first, after_first, position_or_len}
use Rattle.std.proofs.lemmas.List.{drop_all}
use Rattle.std.proofs.Math.Seq.{take-append_seam, drop-append-add}
use Rattle.std.proofs.lemmas.List.Folds.{list_all-append}
use Rattle.std.proofs.lemmas.List.Sums.{split_at_first, passes_at_first}
use Rattle.std.proofs.lemmas.Bool.{eqb-true, and_parts, or_cases, not-true, true≢false, false_from_ne_true, cases_lt, and_from, and_right, cond-true, cond-false}
use Rattle.std.proofs.Math.Bool.{and-true}
use Rattle.std.proofs.lemmas.Bool.Decides.{nat_tests}
use Rattle.std.proofs.lemmas.Slice.Eq.{bytes_eq-Decides}
use Rattle.ap_text.specs.Names.{is_architecture}
use Rattle.deb_version.specs.VersionText.{is_version}
use Rattle.query_tree.specs.Words.{IsReference, is_package, is_plain_version, is_field, is_underscore, is_lower_or_digit, is_upper, is_special_field, has_no_underscore}
use Rattle.query_grammar.specs.Reading.{goes_on, whole, wrong, begun, is_reference, as_reference, reference_in}
use Rattle.query_grammar.specs.declared.term.Begun.TheVariants.{Package, Field}
use Rattle.query_grammar.specs.declared.fault.QueryKind.TheVariants.{WantTerm}
use Rattle.query_tree.specs.Tree.{reference}

is_architecture-nil : is_architecture [] ≡ false
is_architecture-nil = refl

after-inside : (text : List ℕ) → (after_first is_underscore text ≡ [] → ⊥) → position_or_len is_underscore text < length text
after-inside text h =
    elim (cases_lt (position_or_len is_underscore text) (length text)) [
      | inl l ↦ l
      | inr g ↦ absurd (h (drop_all (position_or_len is_underscore text + 1) text (omega arith)))
    ]

cut_at_first : (text : List ℕ) → (after_first is_underscore text ≡ [] → ⊥) → text ≡ before_first is_underscore text ++ 95 ∷ after_first is_underscore text
cut_at_first text h =
    let l = after-inside text h in
    split_at_first is_underscore text 0 l
    ∙ ap (λ c. before_first is_underscore text ++ c ∷ after_first is_underscore text) (eqb-true _ 95 (passes_at_first is_underscore text 0 l))

arch-some : (text : List ℕ) → is_architecture text ≡ true → text ≡ [] → ⊥
arch-some text h e = true≢false (sym h ∙ ap is_architecture e ∙ is_architecture-nil)

pub reference_parts : (text : List ℕ) → is_reference text ≡ true → IsReference text (before_first is_underscore text) (before_first is_underscore (after_first is_underscore text)) (after_first is_underscore (after_first is_underscore text))
unfolding is_reference
reference_parts text h =
    let rest = after_first is_underscore text in
    let p = and_parts _ _ h in
    let q = and_parts _ _ p.0 in
    let some_rest = λ (e : rest ≡ []). arch-some (after_first is_underscore rest) p.1 (ap (λ xs. after_first is_underscore xs) e) in
    record {
      parts = cut_at_first text some_rest ∙ ap (λ xs. before_first is_underscore text ++ 95 ∷ xs) (cut_at_first rest (arch-some (after_first is_underscore rest) p.1));
      named = q.0;
      dated = q.1;
      bound = p.1;
    }

-- the first byte of a field's name is neither a lower case letter nor a digit
upper_not_lower : (c : ℕ) → is_upper c ≡ true → is_lower_or_digit c ≡ false
upper_not_lower c h = grind (arith, nat_tests)

special_first : (text literal : List ℕ) → is_lower_or_digit (get_or literal 0 0) ≡ false → bytes_eq text literal ≡ true → is_lower_or_digit (get_or text 0 0) ≡ false
special_first text literal f h = ap (λ xs. is_lower_or_digit (get_or xs 0 0)) ((bytes_eq-Decides text literal).0 h) ∙ f

special_field_first : (text : List ℕ) → is_special_field text ≡ true → is_lower_or_digit (get_or text 0 0) ≡ false
special_field_first text h =
    elim (or_cases _ _ h) [
      | inr a ↦ special_first text (codes "$PackageType") refl a
      | inl b ↦ elim (or_cases _ _ b) [
        | inr a ↦ special_first text (codes "$Version") refl a
        | inl d ↦ elim (or_cases _ _ d) [
          | inr a ↦ special_first text (codes "$Architecture") refl a
          | inl e ↦ elim (or_cases _ _ e) [
            | inr a ↦ special_first text (codes "$SourceVersion") refl a
            | inl a ↦ special_first text (codes "$Source") refl a
          ]
        ]
      ]
    ]

field_first : (text : List ℕ) → is_field text ≡ true → is_lower_or_digit (get_or text 0 0) ≡ false
unfolding is_field
field_first text h = elim (or_cases _ _ h) [ inl a ↦ upper_not_lower (get_or text 0 0) a | inr b ↦ special_field_first text b ]

package_first : (text : List ℕ) → is_package text ≡ true → (is_lower_or_digit (get_or text 0 0) ≡ true) × (has_no_underscore text ≡ true)
unfolding is_package
package_first text h = let p = and_parts _ _ h in let q = and_parts _ _ p.0 in (p.1, q.1)

field-no_package : (text : List ℕ) → is_field text ≡ true → is_package text ≡ false
field-no_package text h = false_from_ne_true _ (λ p. true≢false (sym (package_first text p).0 ∙ field_first text h))

-- cut at the first `_`
first-at : (xs ys : List ℕ) → has_no_underscore xs ≡ true → position_or_len is_underscore (xs ++ 95 ∷ ys) ≡ length xs
first-at [] ys h = refl
first-at (x ∷ xs) ys h =
    let p = and_parts (not (x == 95)) (has_no_underscore xs) h in
    ap (λ b. cond (not b) (1 + position_or_len is_underscore (xs ++ 95 ∷ ys)) 0) (not-true (x == 95) p.0) ∙ omega (arith, first-at xs ys p.1)

before-at : (xs ys : List ℕ) → has_no_underscore xs ≡ true → before_first is_underscore (xs ++ 95 ∷ ys) ≡ xs
before-at xs ys h = rw (first-at xs ys h) (take-append_seam xs (95 ∷ ys))

after-at : (xs ys : List ℕ) → has_no_underscore xs ≡ true → after_first is_underscore (xs ++ 95 ∷ ys) ≡ ys
after-at xs ys h = rw (first-at xs ys h) (drop-append-add xs (95 ∷ ys) 1)

reference_is : (name version arch : List ℕ) → is_package name ≡ true → is_plain_version version ≡ true → is_architecture arch ≡ true → is_reference (name ++ 95 ∷ (version ++ 95 ∷ arch)) ≡ true
unfolding is_reference is_plain_version
reference_is name version arch n v a =
    let u = (package_first name n).1 in
    let w = (and_parts _ _ v).1 in
    let e = before-at name (version ++ 95 ∷ arch) u in
    let f = after-at name (version ++ 95 ∷ arch) u in
    and_from _ _ (and_from _ _ (ap is_package e ∙ n) (ap (λ xs. is_plain_version (before_first is_underscore xs)) f ∙ ap is_plain_version (before-at version arch w) ∙ v))
    (ap (λ xs. is_architecture (after_first is_underscore xs)) f ∙ ap is_architecture (after-at version arch w) ∙ a)

-- what each kind of word begins
pub begun-package : (text : List ℕ) → is_package text ≡ true → begun text ≡ goes_on (Package text)
unfolding begun
begun-package text h = rw h

pub begun-field : (text : List ℕ) → is_field text ≡ true → begun text ≡ goes_on (Field text)
unfolding begun
begun-field text h = rw (field-no_package text h, h)

has_underscore : (xs ys : List ℕ) → has_no_underscore (xs ++ 95 ∷ ys) ≡ false
has_underscore xs ys = list_all-append (λ c. not (c == 95)) xs (95 ∷ ys) ∙ and_right (has_no_underscore xs) _ refl

reference-no_package : (xs ys : List ℕ) → is_package (xs ++ 95 ∷ ys) ≡ false
reference-no_package xs ys = false_from_ne_true _ (λ p. true≢false (sym (package_first (xs ++ 95 ∷ ys) p).1 ∙ has_underscore xs ys))

reference-no_field : (name rest : List ℕ) → is_package name ≡ true → is_field (name ++ rest) ≡ false
reference-no_field [] rest h = absurd (true≢false (sym (package_first [] h).0))
reference-no_field (c ∷ cs) rest h = false_from_ne_true _ (λ f. true≢false (sym (package_first (c ∷ cs) h).0 ∙ field_first (c ∷ (cs ++ rest)) f))

pub begun-reference : (text name version arch : List ℕ) → IsReference text name version arch → begun text ≡ whole (reference name version arch)
unfolding begun is_plain_version
begun-reference text name version arch r =
    let rest = version ++ 95 ∷ arch in
    let u = (package_first name r.named).1 in
    let w = (and_parts _ _ r.dated).1 in
    let e = before-at name rest u in
    let f = after-at name rest u in
    let g : before_first is_underscore (after_first is_underscore (name ++ 95 ∷ rest)) ≡ version = ap (λ xs. before_first is_underscore xs) f ∙ before-at version arch w in
    let k : after_first is_underscore (after_first is_underscore (name ++ 95 ∷ rest)) ≡ arch = ap (λ xs. after_first is_underscore xs) f ∙ after-at version arch w in
    ap begun r.parts
    ∙ cond-false (is_package (name ++ 95 ∷ rest)) _ _ (reference-no_package name rest)
    ∙ cond-false (is_field (name ++ 95 ∷ rest)) _ _ (reference-no_field name (95 ∷ rest) r.named)
    ∙ cond-true (is_reference (name ++ 95 ∷ rest)) _ _ (reference_is name version arch r.named r.dated r.bound)
    ∙ (λ i. whole (reference (e i) (g i) (k i)))

-- no `_`, or only one
pub no_underscore_no_reference : (text : List ℕ) → position_or_len is_underscore text ≡ length text → is_reference text ≡ false
unfolding is_reference
no_underscore_no_reference text e =
    let none : after_first is_underscore text ≡ [] = drop_all (position_or_len is_underscore text + 1) text (omega arith) in
    and_right _ _ (ap (λ xs. is_architecture (after_first is_underscore xs)) none ∙ is_architecture-nil)

pub one_underscore_no_reference : (text : List ℕ) → position_or_len is_underscore (after_first is_underscore text) ≡ length (after_first is_underscore text) → is_reference text ≡ false
unfolding is_reference
one_underscore_no_reference text e =
    let none : after_first is_underscore (after_first is_underscore text) ≡ [] = drop_all (position_or_len is_underscore (after_first is_underscore text) + 1) (after_first is_underscore text) (omega arith) in
    and_right _ _ (ap is_architecture none ∙ is_architecture-nil)

before-no_underscore : (xs : List ℕ) → has_no_underscore (before_first is_underscore xs) ≡ true
before-no_underscore [] = refl
before-no_underscore (c ∷ cs) = go (not (c == 95)) refl (before-no_underscore cs)
  where
    go : (b : Bool) → b ≡ not (c == 95) → has_no_underscore (before_first is_underscore cs) ≡ true → has_no_underscore (take (cond b (1 + position_or_len is_underscore cs) 0) (c ∷ cs)) ≡ true
    go true e rest =
        let more : suc (position_or_len is_underscore cs) ≡ 1 + position_or_len is_underscore cs = omega arith in
        subst (λ m. has_no_underscore (take m (c ∷ cs)) ≡ true) more (and_from _ _ (sym e) rest)
    go false e rest = refl

-- what stands before a `_` is a version that has none
pub before-plain : (xs : List ℕ) → is_plain_version (before_first is_underscore xs) ≡ is_version (before_first is_underscore xs)
unfolding is_plain_version
before-plain xs = ap (λ b. is_version (before_first is_underscore xs) && b) (before-no_underscore xs) ∙ and-true _

pub as_reference_by_parts : (text : List ℕ) → as_reference text ≡ reference_in (before_first is_underscore text) (before_first is_underscore (after_first is_underscore text)) (after_first is_underscore (after_first is_underscore text))
unfolding is_reference
as_reference_by_parts text =
    let rest = after_first is_underscore text in
    ap (λ b. cond (is_package (before_first is_underscore text) && b && is_architecture (after_first is_underscore rest)) (whole (reference (before_first is_underscore text) (before_first is_underscore rest) (after_first is_underscore rest))) (wrong WantTerm)) (before-plain rest)
