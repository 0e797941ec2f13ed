-- Equal in the order of seeds are equal packages, and sets in that order have what was put into them.
use Rattle.std.proofs.Common.{◌≡◌, List, [], ◌∷◌, Bool, refl, ap, sym, ◌∙◌, Ordering, Less, Equal, Greater}
use Rattle.std.specs.Ordering.{is_eq, ordering_then, ordering_reverse, match_ordering}
use Rattle.std.specs.List.{list_any, filter}
use Rattle.std.specs.BTreeSet.{insert_key}
use Rattle.std.proofs.lemmas.Cmp.{nat_list_cmp_total, tied_itself}
use Rattle.package_core.specs.declared.package.Package.{Package}
use Rattle.package_core.specs.Order.{package_cmp, text_cmp}
use Rattle.package_core.proofs.OrderLaws.{equal_packages, package_total}
use Rattle.package_list.specs.Sorted.{has, put, placed, union}
use Rattle.package_list.specs.Lists.{has_member}
use Rattle.package_list.proofs.Gathers.{any_union}
use Rattle.package_relations.specs.Order.{by_version_cmp}
use Rattle.package_relations.proofs.OrderLemmas.{equal_by_version, equal_packages_by_version}
use Rattle.depend_pull.specs.Seeds.{seed_cmp}
use Rattle.depend_pull.specs.SeedOrder.{seed_total}

-- ---- equal in it are equal packages

back : (p q : Package) → package_cmp q p ≡ Equal → package_cmp p q ≡ Equal
back p q h = package_total.antisymm p q ∙ ap ordering_reverse h

behind_equal : (a b : Ordering) → ordering_then a b ≡ Equal → b ≡ Equal
behind_equal Less b h = cc
behind_equal Equal b h = h
behind_equal Greater b h = cc

from_seeds : (q p : Package) → seed_cmp q p ≡ Equal → package_cmp q p ≡ Equal
unfolding seed_cmp
from_seeds q p h = back q p (equal_packages_by_version p q (behind_equal (text_cmp q.name p.name) (by_version_cmp p q) h))

to_seeds : (q p : Package) → package_cmp q p ≡ Equal → seed_cmp q p ≡ Equal
unfolding seed_cmp
to_seeds q p h =
    let name : text_cmp q.name p.name ≡ Equal = ap (λ l. text_cmp l p.name) (equal_packages q p h).triple.name ∙ tied_itself nat_list_cmp_total p.name in
    let version : by_version_cmp p q ≡ Equal = equal_by_version p q (back p q h) in
    (λ i. ordering_then (name i) (version i))

same_test : (a b : Ordering) → (a ≡ Equal → b ≡ Equal) → (b ≡ Equal → a ≡ Equal) → is_eq a ≡ is_eq b
same_test Equal b f g = ap is_eq (sym (f refl))
same_test Less Equal f g = ap is_eq (g refl)
same_test Less Less f g = refl
same_test Less Greater f g = refl
same_test Greater Equal f g = ap is_eq (g refl)
same_test Greater Less f g = refl
same_test Greater Greater f g = refl

pub one_equality : (q p : Package) → is_eq (seed_cmp q p) ≡ is_eq (package_cmp q p)
one_equality q p = same_test (seed_cmp q p) (package_cmp q p) (from_seeds q p) (to_seeds q p)

-- ---- sets

-- a list has a member in the one order exactly where it has it in the other
pub has_either : (xs : List Package) (p : Package) → has seed_cmp xs p ≡ has_member xs p
has_either xs p = ap (λ f. list_any f xs) (λ i q. one_equality q p i)

-- what was put into a set is what it has
pub has_gathered : (xs : List Package) (p : Package) → has seed_cmp (union seed_cmp [] xs) p ≡ has_member xs p
has_gathered xs p = any_union {R = seed_cmp} (λ q. is_eq (seed_cmp q p)) (λ x y e. ap is_eq (seed_total.congr x y p e)) [] xs ∙ has_either xs p

pub those_gathered : (source xs : List Package) → filter (has seed_cmp (union seed_cmp [] xs)) source ≡ filter (has_member xs) source
those_gathered source xs = ap (λ f. filter f source) (λ i p. has_gathered xs p i)

pub those_either : (source xs : List Package) → filter (has seed_cmp xs) source ≡ filter (has_member xs) source
those_either source xs = ap (λ f. filter f source) (λ i p. has_either xs p i)

turned : (a : Ordering) → is_eq (ordering_reverse a) ≡ is_eq a
turned Less = refl
turned Equal = refl
turned Greater = refl

-- a set is asked the other way round
pub asked_back : (xs : List Package) (p : Package) → list_any (λ q. is_eq (seed_cmp p q)) xs ≡ has seed_cmp xs p
asked_back xs p = ap (λ f. list_any f xs) (λ i q. (ap is_eq (seed_total.antisymm p q) ∙ turned (seed_cmp q p)) i)

-- a key comes to its place
pub key_is_put : (xs : List Package) (p : Package) → insert_key seed_cmp xs p ≡ put seed_cmp xs p
key_is_put [] p = refl
key_is_put (x ∷ xs) p = by_order (seed_cmp p x) refl (key_is_put xs p)
  where
    by_order : (t : Ordering) → seed_cmp p x ≡ t → insert_key seed_cmp xs p ≡ put seed_cmp xs p → match_ordering t (p ∷ x ∷ xs) (x ∷ xs) (x ∷ insert_key seed_cmp xs p) ≡ placed seed_cmp (seed_cmp x p) x p xs (put seed_cmp xs p)
    by_order Less e more = ap (λ r. placed seed_cmp r x p xs (put seed_cmp xs p)) (sym (seed_total.antisymm x p ∙ ap ordering_reverse e))
    by_order Equal e more = ap (λ r. placed seed_cmp r x p xs (put seed_cmp xs p)) (sym (seed_total.antisymm x p ∙ ap ordering_reverse e))
    by_order Greater e more = ap (λ l. x ∷ l) more ∙ ap (λ r. placed seed_cmp r x p xs (put seed_cmp xs p)) (sym (seed_total.antisymm x p ∙ ap ordering_reverse e))
