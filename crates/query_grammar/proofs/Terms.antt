-- Terms that have begun: the tokens behind each, and what one more token makes of it.
use Rattle.std.proofs.Common.{◌≡◌, ◌⊎◌, inl, inr, ℕ, ◌==◌, Bool, true, false, cond, List, [], ◌∷◌, ◌++◌, Option, Some, None, IsTrue, refl, sym, ap, ◌∙◌, subst, append_assoc, append-nil}
use Rattle.std.proofs.lemmas.Bool.{eqb-true}
use Rattle.ap_text.specs.Names.{is_architecture}
use Rattle.deb_version.specs.VersionText.{is_version}
use Rattle.deb_version.specs.declared.order.Relation.{Relation}
use Rattle.deb_version.specs.declared.order.Relation.TheVariants as relation
use Rattle.query_tree.specs.declared.query.Test.{Test}
use Rattle.query_tree.specs.declared.query.Test.TheVariants as test
use Rattle.query_grammar.specs.declared.term.Begun.{Begun}
use Rattle.query_grammar.specs.declared.term.Begun.TheVariants as so_far
use Rattle.query_tree.specs.Tree.{wanted, field}
use Rattle.query_tree.specs.Pieces.{Token, word, operator, lone, quoted, broken, mark}
use Rattle.query_tree.specs.Words.{is_package, is_field, relation_of, may_test}
use Rattle.query_grammar.proofs.WordFacts.{reference_parts}
use Rattle.query_tree.specs.Grammar.{Term, Related, Bound, Tested}
use Rattle.query_grammar.specs.Reading.{Progress, goes_on, whole, ended, wrong, progress, version_at, compared, relation_at, valued, value_at, test_at, arch_at, closed_by, braces_or, package_at, field_at, at_end, begun, is_reference}

-- the tokens of a term that has begun
abbrev pub Begins : Begun → List Token → Type 0
Begins (so_far.Package name) ps = IsTrue (is_package name) × (ps ≡ word name ∷ [])
Begins (so_far.PackageOpened name) ps = IsTrue (is_package name) × (ps ≡ word name ∷ mark 40 ∷ [])
Begins (so_far.Compared name asked) ps = IsTrue (is_package name) × (how : Test) × (relation_of how ≡ Some asked) × (ps ≡ word name ∷ mark 40 ∷ operator how ∷ [])
Begins (so_far.Versioned name asked version) ps = IsTrue (is_package name) × (front : List Token) × (ps ≡ word name ∷ front) × Related (front ++ mark 41 ∷ []) (Some (asked, version))
Begins (so_far.Related name asked version) ps = IsTrue (is_package name) × (front : List Token) × (ps ≡ word name ∷ front) × Related front (Some (asked, version))
Begins (so_far.Braced name asked) ps = IsTrue (is_package name) × (front : List Token) × (ps ≡ word name ∷ (front ++ mark 123 ∷ [])) × Related front asked
Begins (so_far.Bound name asked arch) ps = IsTrue (is_package name) × (front : List Token) × (ps ≡ word name ∷ (front ++ mark 123 ∷ word arch ∷ [])) × Related front asked × IsTrue (is_architecture arch)
Begins (so_far.Field name) ps = IsTrue (is_field name) × (ps ≡ word name ∷ [])
Begins (so_far.FieldOpened name) ps = IsTrue (is_field name) × (ps ≡ word name ∷ mark 40 ∷ [])
Begins (so_far.Tested name how) ps = IsTrue (is_field name) × (ps ≡ word name ∷ mark 40 ∷ operator how ∷ [])
Begins (so_far.Valued name how value) ps = IsTrue (is_field name) × (front : List Token) × (ps ≡ word name ∷ front) × Tested name (front ++ mark 41 ∷ []) (Some (how, value))

-- what one more token makes of tokens
abbrev pub Makes : List Token → Token → Progress → Type 0
Makes ps p (goes_on b) = Begins b (ps ++ p ∷ [])
Makes ps p (whole t) = Term (ps ++ p ∷ []) t
Makes ps p (ended t) = Term ps t
Makes ps p (wrong kind) = Unit {0}

Makes-if : (ps : List Token) (p : Token) (c : Bool) (here there : Progress) → (c ≡ true → Makes ps p here) → (c ≡ false → Makes ps p there) → Makes ps p (cond c here there)
Makes-if ps p true here there h g = h refl
Makes-if ps p false here there h g = g refl

at_mark : (ps : List Token) (c d : ℕ) (next : Progress) → (d == c) ≡ true → Makes ps (mark c) next → Makes ps (mark d) next
at_mark ps c d next e h = subst (λ n. Makes ps (mark n) next) (sym (eqb-true d c e)) h

versioned-makes : (name : List ℕ) (asked : Relation) (ps front : List Token) (version : List ℕ) → IsTrue (is_package name) → ps ≡ word name ∷ front → (IsTrue (is_version version) → Related (front ++ word version ∷ mark 41 ∷ []) (Some (asked, version))) → IsTrue (is_version version) → Begins (so_far.Versioned name asked version) (ps ++ word version ∷ [])
versioned-makes name asked ps front version n e h v =
    (n, front ++ word version ∷ [], ap (λ qs. qs ++ word version ∷ []) e, subst (λ qs. Related qs (Some (asked, version))) (sym (append_assoc front (word version ∷ []) (mark 41 ∷ []))) (h v))

-- the tokens of a wanted package
wanted-term : (name : List ℕ) (asked : Option (Relation × List ℕ)) (arch : Option (List ℕ)) (ps front back : List Token) → IsTrue (is_package name) → Related front asked → Bound back arch → ps ≡ word name ∷ (front ++ back) → Term ps (wanted name asked arch)
wanted-term name asked arch ps front back n r b e = (n, front, back, r, b, e)

ended-related : (name : List ℕ) (asked : Option (Relation × List ℕ)) (ps front : List Token) → IsTrue (is_package name) → Related front asked → ps ≡ word name ∷ front → Term ps (wanted name asked None)
ended-related name asked ps front n r e = (n, front, [], r, refl, e ∙ ap (λ qs. word name ∷ qs) (sym (append-nil front)))

braced-makes : (name : List ℕ) (asked : Option (Relation × List ℕ)) (ps front : List Token) → IsTrue (is_package name) → Related front asked → ps ≡ word name ∷ front → Begins (so_far.Braced name asked) (ps ++ mark 123 ∷ [])
braced-makes name asked ps front n r e = (n, front, ap (λ qs. qs ++ mark 123 ∷ []) e, r)

braces_makes : (name : List ℕ) (asked : Option (Relation × List ℕ)) (ps : List Token) (p : Token) (front : List Token) → IsTrue (is_package name) → Related front asked → ps ≡ word name ∷ front → Makes ps p (braces_or name asked p)
braces_makes name asked ps (mark c) front n r e =
    Makes-if ps (mark c) (c == 123) _ _ (λ h. at_mark ps 123 c (goes_on (so_far.Braced name asked)) h (braced-makes name asked ps front n r e)) (λ _. ended-related name asked ps front n r e)
braces_makes name asked ps p front n r e = ended-related name asked ps front n r e

package_makes : (name : List ℕ) (ps : List Token) (p : Token) → IsTrue (is_package name) → ps ≡ word name ∷ [] → Makes ps p (package_at name p)
package_makes name ps (mark c) n e =
    Makes-if ps (mark c) (c == 40) _ _ (λ h. at_mark ps 40 c (goes_on (so_far.PackageOpened name)) h (n, ap (λ qs. qs ++ mark 40 ∷ []) e)) (λ _. braces_makes name None ps (mark c) [] n refl e)
package_makes name ps p n e = ended-related name None ps [] n refl e

-- the tokens behind the `(` where a version must stand
abbrev BeforeVersion : Relation → List Token → Type 0
BeforeVersion asked front = (version : List ℕ) → IsTrue (is_version version) → Related (front ++ word version ∷ mark 41 ∷ []) (Some (asked, version))

version_makes : (name : List ℕ) (asked : Relation) (ps : List Token) (p : Token) (front : List Token) → IsTrue (is_package name) → ps ≡ word name ∷ front → BeforeVersion asked front → Makes ps p (version_at name asked p)
version_makes name asked ps (word version) front n e b =
    Makes-if ps (word version) (is_version version) _ _ (λ v. versioned-makes name asked ps front version n e (b version) v) (λ _. tt)
version_makes name asked ps (quoted value) front n e b = tt
version_makes name asked ps broken front n e b = tt
version_makes name asked ps p front n e b = tt

compared_makes : (name : List ℕ) (ps : List Token) (how : Test) (asked : Option Relation) → relation_of how ≡ asked → IsTrue (is_package name) → ps ≡ word name ∷ mark 40 ∷ [] → Makes ps (operator how) (compared name asked)
compared_makes name ps how None r n e = tt
compared_makes name ps how (Some asked) r n e = (n, how, r, ap (λ qs. qs ++ operator how ∷ []) e)

relation_makes : (name : List ℕ) (ps : List Token) (p : Token) → IsTrue (is_package name) → ps ≡ word name ∷ mark 40 ∷ [] → Makes ps p (relation_at name p)
relation_makes name ps (operator how) n e = compared_makes name ps how (relation_of how) refl n e
relation_makes name ps lone n e = tt
relation_makes name ps p n e = version_makes name relation.Equal ps p (mark 40 ∷ []) n e (λ version v. (v, inl (refl, refl)))

closed_makes : (c : ℕ) (next : Progress) (ps : List Token) (p : Token) → Makes ps (mark c) next → Makes ps p (closed_by c next p)
closed_makes c next ps (mark d) h = Makes-if ps (mark d) (d == c) _ _ (λ e. at_mark ps c d next e h) (λ _. tt)
closed_makes c next ps p h = tt

arch_makes : (name : List ℕ) (asked : Option (Relation × List ℕ)) (ps : List Token) (p : Token) → Begins (so_far.Braced name asked) ps → Makes ps p (arch_at name asked p)
arch_makes name asked ps (word arch) (n, front, e, r) =
    Makes-if ps (word arch) (is_architecture arch) _ _ (λ a. (n, front, ap (λ qs. qs ++ word arch ∷ []) e ∙ ap (λ qs. word name ∷ qs) (append_assoc front (mark 123 ∷ []) (word arch ∷ [])), r, a)) (λ _. tt)
arch_makes name asked ps p h = tt

bound-whole : (name : List ℕ) (asked : Option (Relation × List ℕ)) (arch : List ℕ) (ps : List Token) → Begins (so_far.Bound name asked arch) ps → Term (ps ++ mark 125 ∷ []) (wanted name asked (Some arch))
bound-whole name asked arch ps (n, front, e, r, a) =
    (n, front, mark 123 ∷ word arch ∷ mark 125 ∷ [], r, (a, refl), ap (λ qs. qs ++ mark 125 ∷ []) e ∙ ap (λ qs. word name ∷ qs) (append_assoc front (mark 123 ∷ word arch ∷ []) (mark 125 ∷ [])))

field_makes : (name : List ℕ) (ps : List Token) (p : Token) → IsTrue (is_field name) → ps ≡ word name ∷ [] → Makes ps p (field_at name p)
field_makes name ps (mark c) n e =
    Makes-if ps (mark c) (c == 40) _ _ (λ h. at_mark ps 40 c (goes_on (so_far.FieldOpened name)) h (n, ap (λ qs. qs ++ mark 40 ∷ []) e)) (λ _. (n, [], refl, e))
field_makes name ps p n e = (n, [], refl, e)

abbrev BeforeValue : List ℕ → Test → List Token → Type 0
BeforeValue name how front = (p : Token) (value : List ℕ) → (p ≡ word value) ⊎ (p ≡ quoted value) → IsTrue (may_test name how value) → Tested name (front ++ p ∷ mark 41 ∷ []) (Some (how, value))

valued_makes : (name : List ℕ) (how : Test) (ps : List Token) (p : Token) (value : List ℕ) (front : List Token) → (p ≡ word value) ⊎ (p ≡ quoted value) → IsTrue (is_field name) → ps ≡ word name ∷ front → BeforeValue name how front → Makes ps p (valued name how value)
valued_makes name how ps p value front is n e b =
    Makes-if ps p (may_test name how value) _ _
    (λ v. (n, front ++ p ∷ [], ap (λ qs. qs ++ p ∷ []) e, subst (λ qs. Tested name qs (Some (how, value))) (sym (append_assoc front (p ∷ []) (mark 41 ∷ []))) (b p value is v)))
    (λ _. tt)

value_makes : (name : List ℕ) (how : Test) (ps : List Token) (p : Token) (front : List Token) → IsTrue (is_field name) → ps ≡ word name ∷ front → BeforeValue name how front → Makes ps p (value_at name how p)
value_makes name how ps (word value) front n e b = valued_makes name how ps (word value) value front (inl refl) n e b
value_makes name how ps (quoted value) front n e b = valued_makes name how ps (quoted value) value front (inr refl) n e b
value_makes name how ps broken front n e b = tt
value_makes name how ps p front n e b = tt

test_makes : (name : List ℕ) (ps : List Token) (p : Token) → IsTrue (is_field name) → ps ≡ word name ∷ mark 40 ∷ [] → Makes ps p (test_at name p)
test_makes name ps (operator how) n e = (n, ap (λ qs. qs ++ operator how ∷ []) e)
test_makes name ps lone n e = tt
test_makes name ps p n e = value_makes name test.Equal ps p (mark 40 ∷ []) n e (λ q value is v. (v, q, is, inl (refl, refl)))

valued-whole : (name : List ℕ) (how : Test) (value : List ℕ) (ps : List Token) → Begins (so_far.Valued name how value) ps → Term (ps ++ mark 41 ∷ []) (field name (Some (how, value)))
valued-whole name how value ps (n, front, e, t) = (n, front ++ mark 41 ∷ [], t, ap (λ qs. qs ++ mark 41 ∷ []) e)

versioned-closed : (name : List ℕ) (asked : Relation) (version : List ℕ) (ps : List Token) → Begins (so_far.Versioned name asked version) ps → Begins (so_far.Related name asked version) (ps ++ mark 41 ∷ [])
versioned-closed name asked version ps (n, front, e, r) = (n, front ++ mark 41 ∷ [], ap (λ qs. qs ++ mark 41 ∷ []) e, r)

-- one more token in a term
pub progress_makes : (b : Begun) (ps : List Token) (p : Token) → Begins b ps → Makes ps p (progress b p)
unfolding progress
progress_makes (so_far.Package name) ps p (n, e) = package_makes name ps p n e
progress_makes (so_far.PackageOpened name) ps p (n, e) = relation_makes name ps p n e
progress_makes (so_far.Compared name asked) ps p (n, how, r, e) = version_makes name asked ps p (mark 40 ∷ operator how ∷ []) n e (λ version v. (v, inr (how, r, refl)))
progress_makes (so_far.Versioned name asked version) ps p h = closed_makes 41 (goes_on (so_far.Related name asked version)) ps p (versioned-closed name asked version ps h)
progress_makes (so_far.Related name asked version) ps p (n, front, e, r) = braces_makes name (Some (asked, version)) ps p front n r e
progress_makes (so_far.Braced name asked) ps p h = arch_makes name asked ps p h
progress_makes (so_far.Bound name asked arch) ps p h = closed_makes 125 (whole (wanted name asked (Some arch))) ps p (bound-whole name asked arch ps h)
progress_makes (so_far.Field name) ps p (n, e) = field_makes name ps p n e
progress_makes (so_far.FieldOpened name) ps p (n, e) = test_makes name ps p n e
progress_makes (so_far.Tested name how) ps p (n, e) = value_makes name how ps p (mark 40 ∷ operator how ∷ []) n e (λ q value is v. (v, q, is, inr refl))
progress_makes (so_far.Valued name how value) ps p h = closed_makes 41 (whole (field name (Some (how, value)))) ps p (valued-whole name how value ps h)

-- what the end of the text makes of a term
abbrev pub Ends : List Token → Progress → Type 0
Ends ps (goes_on b) = ⊥
Ends ps (whole t) = ⊥
Ends ps (ended t) = Term ps t
Ends ps (wrong kind) = Unit {0}

pub at_end-ends : (b : Begun) (ps : List Token) → Begins b ps → Ends ps (at_end b)
unfolding at_end
at_end-ends (so_far.Package name) ps (n, e) = ended-related name None ps [] n refl e
at_end-ends (so_far.PackageOpened name) ps h = tt
at_end-ends (so_far.Compared name asked) ps h = tt
at_end-ends (so_far.Versioned name asked version) ps h = tt
at_end-ends (so_far.Related name asked version) ps (n, front, e, r) = ended-related name (Some (asked, version)) ps front n r e
at_end-ends (so_far.Braced name asked) ps h = tt
at_end-ends (so_far.Bound name asked arch) ps h = tt
at_end-ends (so_far.Field name) ps (n, e) = (n, [], refl, e)
at_end-ends (so_far.FieldOpened name) ps h = tt
at_end-ends (so_far.Tested name how) ps h = tt
at_end-ends (so_far.Valued name how value) ps h = tt

-- a word where a term must begin
pub begun_makes : (text : List ℕ) → Makes [] (word text) (begun text)
unfolding begun
begun_makes text =
    Makes-if [] (word text) (is_package text) _ _ (λ n. (n, refl))
    (λ _. Makes-if [] (word text) (is_field text) _ _ (λ f. (f, refl))
    (λ _. Makes-if [] (word text) (is_reference text) _ _ (λ r. (text, reference_parts text r, refl)) (λ _. tt)))
