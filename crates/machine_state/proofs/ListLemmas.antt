-- Lists of packages by name: with fewer members, and joined.
use Rattle.std.proofs.Common.{◌≡◌, ℕ, ◌≤◌, ◌+◌, Bool, true, false, not, cond, ◌&&◌, ◌||◌, List, [], ◌∷◌, length, Option, Some, None, Result, Ok, Err, refl, sym, ap, ◌∙◌, arith, nat_lt, ltb-false, true≢false, find, Ordering, Less, Equal, Greater}
use Rattle.std.specs.Ordering.{is_eq, ordering_reverse}
use Rattle.std.specs.List.{All, AllByRecursion, filter, list_any}
use Rattle.std.proofs.lemmas.List.Elements.{All-filter, All-from_recursion, recursion_from_All}
use Rattle.package_core.specs.Card.{Card}
use Rattle.package_core.specs.Order.{package_cmp, triple_cmp}
use Rattle.package_core.proofs.OrderLaws.{package_total, triple_total, same_triple-is}
use Rattle.package_list.specs.declared.list.TheConstants.{MOST_MEMBERS}
use Rattle.package_list.specs.declared.fault.ListFault.{ListFault}
use Rattle.package_list.specs.declared.fault.ListFault.TheVariants.{Full}
use Rattle.package_list.specs.Sorted.{IsAscending, placed, put}
use Rattle.package_list.specs.Lists.{union, clash, clashes, has_clash}
use Rattle.package_list.specs.Answers.{append_answer, conflict_or, first_clash, size_answer}
use Rattle.package_list.proofs.SortedLemmas.{union_ascending}
use Rattle.package_list.proofs.Unions.{filter_ascending}
use Rattle.machine_state.specs.declared.limit.Limit.TheVariants.{Packages}
use Rattle.machine_state.specs.Limits.{limit_number}
use Rattle.machine_state.specs.Lists.{IsKnown, IsNamedList}

-- ---- tests that no element passes
none_of : {X : Type 0} (test : X → Bool) (xs : List X) → list_any test xs ≡ false → AllByRecursion (λ x. test x ≡ false) xs
none_of test [] h = tt
none_of test (x ∷ xs) h = by_test (test x) refl h (none_of test xs)
  where
    by_test : (b : Bool) → test x ≡ b → (b || list_any test xs) ≡ false → (list_any test xs ≡ false → AllByRecursion (λ y. test y ≡ false) xs) → AllByRecursion (λ y. test y ≡ false) (x ∷ xs)
    by_test true e g more = absurd (true≢false g)
    by_test false e g more = (e, more g)

none_any : {X : Type 0} (test : X → Bool) (xs : List X) → AllByRecursion (λ x. test x ≡ false) xs → list_any test xs ≡ false
none_any test [] h = refl
none_any test (x ∷ xs) h = (λ i. h.0 i || none_any test xs h.1 i)

none_found : {X : Type 0} (test : X → Bool) (xs : List X) → find test xs ≡ None → AllByRecursion (λ x. test x ≡ false) xs
none_found test [] h = tt
none_found test (x ∷ xs) h = by_test (test x) refl h (none_found test xs)
  where
    never : {Y : Type 0} → Some x ≡ None → Y
    never e = cc

    by_test : (b : Bool) → test x ≡ b → cond b (Some x) (find test xs) ≡ None → (find test xs ≡ None → AllByRecursion (λ y. test y ≡ false) xs) → AllByRecursion (λ y. test y ≡ false) (x ∷ xs)
    by_test true e g more = absurd (never g)
    by_test false e g more = (e, more g)

each_so : {X : Type 0} (P Q : X → Type 0) → ((x : X) → P x → Q x) → (xs : List X) → AllByRecursion P xs → AllByRecursion Q xs
each_so P Q f [] h = tt
each_so P Q f (x ∷ xs) h = (f x h.0, each_so P Q f xs h.1)

each_kept : {X : Type 0} (P : X → Type 0) (test : X → Bool) (xs : List X) → AllByRecursion P xs → AllByRecursion P (filter test xs)
each_kept P test [] h = tt
each_kept P test (x ∷ xs) h = by_test (test x) (each_kept P test xs h.1)
  where
    by_test : (b : Bool) → AllByRecursion P (filter test xs) → AllByRecursion P (cond b (x ∷ filter test xs) (filter test xs))
    by_test true more = (h.0, more)
    by_test false more = more

pub filter_shorter : {X : Type 0} (test : X → Bool) (xs : List X) → length (filter test xs) ≤ length xs
filter_shorter test [] = omega arith
filter_shorter test (x ∷ xs) = by_test (test x) (filter_shorter test xs)
  where
    by_test : (b : Bool) → length (filter test xs) ≤ length xs → length (cond b (x ∷ filter test xs) (filter test xs)) ≤ length (x ∷ xs)
    by_test true more = omega (arith, more)
    by_test false more = omega (arith, more)

-- the empty list is one by name
pub named_none : (known : List Card) → IsNamedList known []
named_none known = record { sorted = tt; apart = refl; listed = λ k d l. absurd (omega (arith, l)); few = omega arith }

-- ---- fewer members

-- a list with fewer members has no clash either
apart_kept : (test : Card → Bool) (xs : List Card) → has_clash xs ≡ false → has_clash (filter test xs) ≡ false
apart_kept test xs h =
    none_any (clashes (filter test xs)) (filter test xs)
    (each_kept (λ p. clashes (filter test xs) p ≡ false) test xs
    (each_so (λ p. clashes xs p ≡ false) (λ p. clashes (filter test xs) p ≡ false) (λ p e. none_any (λ q. clash q p) (filter test xs) (each_kept (λ q. clash q p ≡ false) test xs (none_of (λ q. clash q p) xs e))) xs
    (none_of (clashes xs) xs h)))

-- some of the members of a list by name, in its order, are one
pub named_kept : (known list : List Card) (test : Card → Bool) → IsNamedList known list → IsNamedList known (filter test list)
named_kept known list test n = record {
  sorted = filter_ascending package_total test list n.sorted;
  apart = apart_kept test list n.apart;
  listed = All-filter test (IsKnown known) list n.listed;
  few = omega (arith, filter_shorter test list, n.few);
}

-- ---- all of two lists

-- what holds of each of both holds of each of the union
put_each : (P : Card → Type 0) (xs : List Card) (y : Card) → AllByRecursion P xs → P y → AllByRecursion P (put package_cmp xs y)
put_each P [] y h p = (p, tt)
put_each P (x ∷ xs) y h p = by_order (package_cmp x y) (put_each P xs y h.1 p)
  where
    by_order : (r : Ordering) → AllByRecursion P (put package_cmp xs y) → AllByRecursion P (placed package_cmp r x y xs (put package_cmp xs y))
    by_order Less more = (h.0, more)
    by_order Equal more = h
    by_order Greater more = (p, h)

union_each : (P : Card → Type 0) (xs ys : List Card) → AllByRecursion P xs → AllByRecursion P ys → AllByRecursion P (union xs ys)
union_each P xs [] h g = h
union_each P xs (y ∷ ys) h g = union_each P (put package_cmp xs y) ys (put_each P xs y h g.0) g.1

-- each of the first list is in the union
put_first : (P : Card → Type 0) (xs : List Card) (y : Card) → AllByRecursion P (put package_cmp xs y) → AllByRecursion P xs
put_first P [] y h = tt
put_first P (x ∷ xs) y h = by_order (package_cmp x y) h (put_first P xs y)
  where
    by_order : (r : Ordering) → AllByRecursion P (placed package_cmp r x y xs (put package_cmp xs y)) → (AllByRecursion P (put package_cmp xs y) → AllByRecursion P xs) → AllByRecursion P (x ∷ xs)
    by_order Less g more = (g.0, more g.1)
    by_order Equal g more = g
    by_order Greater g more = g.1

union_first : (P : Card → Type 0) (xs ys : List Card) → AllByRecursion P (union xs ys) → AllByRecursion P xs
union_first P xs [] h = h
union_first P xs (y ∷ ys) h = put_first P xs y (union_first P (put package_cmp xs y) ys h)

-- whether two clash doesn't hang on their order
turned_equal : (r s : Ordering) → r ≡ ordering_reverse s → is_eq r ≡ is_eq s
turned_equal r Less e = ap is_eq e
turned_equal r Equal e = ap is_eq e
turned_equal r Greater e = ap is_eq e

clash_turned : (p q : Card) → clash p q ≡ clash q p
clash_turned p q =
    let triples = same_triple-is p q ∙ turned_equal (triple_cmp p q) (triple_cmp q p) (triple_total.antisymm p q) ∙ sym (same_triple-is q p) in
    let equals = ap not (turned_equal (package_cmp p q) (package_cmp q p) (package_total.antisymm p q)) in
    (λ i. triples i && equals i)

-- where no member of the second list clashes with one of the first, none of the first does with one of the second
none_meets : (own : List Card) (ys : List Card) → AllByRecursion (λ y. AllByRecursion (λ p. clash p y ≡ false) own) ys → AllByRecursion (λ p. AllByRecursion (λ y. clash y p ≡ false) ys) own
none_meets [] ys h = tt
none_meets (p ∷ ps) ys h = (
  each_so (λ y. AllByRecursion (λ q. clash q y ≡ false) (p ∷ ps)) (λ y. clash y p ≡ false) (λ y g. clash_turned y p ∙ g.0) ys h,
  none_meets ps ys (each_so (λ y. AllByRecursion (λ q. clash q y ≡ false) (p ∷ ps)) (λ y. AllByRecursion (λ q. clash q y ≡ false) ps) (λ y g. g.1) ys h),
)

-- the union of lists that don't clash, and whose members don't clash in it, has no clash
pub apart_union : (own list : List Card) → has_clash own ≡ false → first_clash (union own list) list ≡ None → has_clash (union own list) ≡ false
apart_union own list apart none = none_any (clashes (union own list)) (union own list) (union_each (λ p. clashes (union own list) p ≡ false) own list (of_own own (none_of (clashes own) own apart) (none_meets own list with_own)) later)
  where
    later : AllByRecursion (λ p. clashes (union own list) p ≡ false) list
    later = none_found (clashes (union own list)) list none

    with_own : AllByRecursion (λ y. AllByRecursion (λ p. clash p y ≡ false) own) list
    with_own =
        each_so (λ y. clashes (union own list) y ≡ false) (λ y. AllByRecursion (λ p. clash p y ≡ false) own)
        (λ y e. union_first (λ p. clash p y ≡ false) own list (none_of (λ p. clash p y) (union own list) e)) list later

    of_own : (xs : List Card) → AllByRecursion (λ p. clashes own p ≡ false) xs → AllByRecursion (λ p. AllByRecursion (λ y. clash y p ≡ false) list) xs → AllByRecursion (λ p. clashes (union own list) p ≡ false) xs
    of_own [] h g = tt
    of_own (p ∷ ps) h g =
        (none_any (λ q. clash q p) (union own list) (union_each (λ q. clash q p ≡ false) own list (none_of (λ q. clash q p) own h.0) g.0), of_own ps h.1 g.1)

-- what a list that can be appended is
pub record Appends (own list : List Card) : Type 0 where
  pub none : first_clash (union own list) list ≡ None
  pub few : length (union own list) ≤ limit_number Packages

abbrev sized : Bool → Result (Unit {0}) ListFault
sized b = cond b (Err Full) (Ok tt)

pub appends : (own list : List Card) → append_answer own list ≡ Ok tt → Appends own list
appends own list h = by_clash (first_clash (union own list) list) refl h
  where
    by_size : (b : Bool) → nat_lt (limit_number Packages) (length (union own list)) ≡ b → sized b ≡ Ok tt → length (union own list) ≤ limit_number Packages
    by_size true e g = cc
    by_size false e g = ltb-false (limit_number Packages) (length (union own list)) e

    by_clash : (c : Option Card) → first_clash (union own list) list ≡ c → conflict_or c (size_answer MOST_MEMBERS (union own list)) ≡ Ok tt → Appends own list
    by_clash (Some p) e g = cc
    by_clash None e g = record { none = e; few = by_size (nat_lt (limit_number Packages) (length (union own list))) refl g }

-- what holds of each of both lists, by places
pub union_all : (P : Card → Type 0) (xs ys : List Card) → All P xs → All P ys → All P (union xs ys)
union_all P xs ys all more = All-from_recursion P (union xs ys) (union_each P xs ys (recursion_from_All P xs all) (recursion_from_All P ys more))

-- all of two lists by name is one, where the second can be appended to the first
pub named_union : (known own list : List Card) → IsNamedList known own → IsNamedList known list → append_answer own list ≡ Ok tt → IsNamedList known (union own list)
named_union known own list n m h =
    let a = appends own list h in
    record {
      sorted = union_ascending package_total own list n.sorted;
      apart = apart_union own list n.apart a.none;
      listed = union_all (IsKnown known) own list n.listed m.listed;
      few = a.few;
    }
