-- The order of packages is total, and equal in it are those with one name, architecture, version text, stanza text, file
-- name and SHA-256.
use Rattle.std.proofs.Common.{◌≡◌, ℕ, Bool, true, false, ◌&&◌, List, refl, ap, sym, ◌∙◌, Less, Equal, Greater}
use Rattle.std.specs.declared.cmp.Ordering.{Ordering}
use Rattle.std.specs.Ordering.{ordering_then, is_eq}
use Rattle.std.specs.Cmp.{IsTotalOrder}
use Rattle.std.specs.Str.{bytes_eq}
use Rattle.std.proofs.lemmas.Map.Text.{is_eq-slice_cmp}
use Rattle.std.proofs.lemmas.Cmp.{nat_list_cmp_total, on_total, then_total, tied_itself}
use Rattle.control_stanza.specs.Written.{stanza_text}
use Rattle.deb_version.specs.VersionOrder.{version_cmp}
use Rattle.deb_version.proofs.OrderLaws.{version_total}
use Rattle.package_core.specs.declared.package.Package.{Package}
use Rattle.package_core.specs.Order.{text_cmp, triple_cmp, body_cmp, package_cmp, same_triple, HasTripleOf, IsTwin}
use Rattle.package_core.specs.Card.{IsPackage}
use Rattle.package_core.proofs.PackageLemmas.{eq_bytes}
use Rattle.package_core.proofs.StanzaLaws.{one_text}

pub triple_total : IsTotalOrder triple_cmp
unfolding triple_cmp
triple_total =
    then_total (on_total (λ (p : Package). p.name) nat_list_cmp_total)
    (then_total (on_total (λ (p : Package). p.arch) nat_list_cmp_total)
    (then_total (on_total (λ (p : Package). p.version) version_total) (on_total (λ (p : Package). p.version) nat_list_cmp_total)))

pub body_total : IsTotalOrder body_cmp
unfolding body_cmp
body_total =
    then_total (on_total (λ (p : Package). stanza_text p.stanza) nat_list_cmp_total)
    (then_total (on_total (λ (p : Package). p.file) nat_list_cmp_total) (on_total (λ (p : Package). p.said.sha256) nat_list_cmp_total))

pub package_total : IsTotalOrder package_cmp
unfolding package_cmp
package_total = then_total triple_total body_total

then_equal : (a b : Ordering) → ordering_then a b ≡ Equal → (a ≡ Equal) × (b ≡ Equal)
then_equal Less b h = cc
then_equal Equal b h = (refl, h)
then_equal Greater b h = cc

then_both : (a b : Ordering) → a ≡ Equal → b ≡ Equal → ordering_then a b ≡ Equal
then_both a b h g = rw (h, g) refl

equal_text : (xs ys : List ℕ) → text_cmp xs ys ≡ Equal → xs ≡ ys
equal_text xs ys h = eq_bytes xs ys (sym (is_eq-slice_cmp xs ys) ∙ ap is_eq h)

text_equal : (xs ys : List ℕ) → xs ≡ ys → text_cmp xs ys ≡ Equal
text_equal xs ys e = ap (λ (l : List ℕ). text_cmp l ys) e ∙ tied_itself nat_list_cmp_total ys

version_equal : (xs ys : List ℕ) → xs ≡ ys → version_cmp xs ys ≡ Equal
version_equal xs ys e = ap (λ (l : List ℕ). version_cmp l ys) e ∙ tied_itself version_total ys

pub equal_triples : (a b : Package) → triple_cmp a b ≡ Equal → HasTripleOf a b
unfolding triple_cmp
equal_triples a b h =
    let p = then_equal (text_cmp a.name b.name) _ h in
    let q = then_equal (text_cmp a.arch b.arch) _ p.1 in
    let r = then_equal (version_cmp a.version b.version) _ q.1 in
    record { name = equal_text _ _ p.0; version = equal_text _ _ r.1; arch = equal_text _ _ q.0 }

pub triples_equal : (a b : Package) → HasTripleOf a b → triple_cmp a b ≡ Equal
unfolding triple_cmp
triples_equal a b s =
    then_both _ _ (text_equal _ _ s.name) (then_both _ _ (text_equal _ _ s.arch) (then_both _ _ (version_equal _ _ s.version) (text_equal _ _ s.version)))

pub equal_packages : (a b : Package) → package_cmp a b ≡ Equal → IsTwin a b
unfolding package_cmp body_cmp
equal_packages a b h =
    let p = then_equal (triple_cmp a b) _ h in
    let q = then_equal (text_cmp (stanza_text a.stanza) (stanza_text b.stanza)) _ p.1 in
    let r = then_equal (text_cmp a.file b.file) _ q.1 in
    record { triple = equal_triples a b p.0; stanza = equal_text _ _ q.0; file = equal_text _ _ r.0; sha256 = equal_text _ _ r.1 }

pub packages_equal : (a b : Package) → IsTwin a b → package_cmp a b ≡ Equal
unfolding package_cmp body_cmp
packages_equal a b s =
    then_both _ _ (triples_equal a b s.triple) (then_both _ _ (text_equal _ _ s.stanza) (then_both _ _ (text_equal _ _ s.file) (text_equal _ _ s.sha256)))

bytes_same : (xs ys : List ℕ) → xs ≡ ys → bytes_eq xs ys ≡ true
bytes_same xs ys e = sym (is_eq-slice_cmp xs ys) ∙ ap is_eq (text_equal xs ys e)

all_three : (a b c : Bool) → (a && b && c) ≡ true → (a ≡ true) × (b ≡ true) × (c ≡ true)
all_three true true c h = (refl, refl, h)
all_three true false c h = cc
all_three false b c h = cc

three : (a b c : Bool) → a ≡ true → b ≡ true → c ≡ true → (a && b && c) ≡ true
three a b c e f g = rw (e, f, g) refl

pub triple_is : (a b : Package) → same_triple a b ≡ true → HasTripleOf a b
unfolding same_triple
triple_is a b h =
    let p = all_three (bytes_eq a.name b.name) (bytes_eq a.version b.version) (bytes_eq a.arch b.arch) h in
    record { name = eq_bytes _ _ p.0; version = eq_bytes _ _ p.1; arch = eq_bytes _ _ p.2 }

pub is_triple : (a b : Package) → HasTripleOf a b → same_triple a b ≡ true
unfolding same_triple
is_triple a b s = three _ _ _ (bytes_same _ _ s.name) (bytes_same _ _ s.version) (bytes_same _ _ s.arch)

agree : (a b : Bool) → (a ≡ true → b ≡ true) → (b ≡ true → a ≡ true) → a ≡ b
agree true true f g = refl
agree true false f g = sym (f refl)
agree false true f g = g refl
agree false false f g = refl

is_equal : (o : Ordering) → is_eq o ≡ true → o ≡ Equal
is_equal Less h = cc
is_equal Equal h = refl
is_equal Greater h = cc

-- one triple is equality in the order of triples
pub same_triple-is : (a b : Package) → same_triple a b ≡ is_eq (triple_cmp a b)
same_triple-is a b =
    agree (same_triple a b) (is_eq (triple_cmp a b)) (λ h. ap is_eq (triples_equal a b (triple_is a b h))) (λ h. is_triple a b (equal_triples a b (is_equal (triple_cmp a b) h)))

-- packages of stanzas that are equal are one but for what is said of the file
pub one_package : (a b : Package) → IsPackage a → IsPackage b → package_cmp a b ≡ Equal → record a { said = b.said } ≡ b
one_package a b p q h =
    let s = equal_packages a b h in
    let stanza = one_text a.stanza b.stanza p.stanza q.stanza s.stanza in
    (λ i. record { name = s.triple.name i; version = s.triple.version i; arch = s.triple.arch i; stanza = stanza i; file = s.file i; said = b.said })
