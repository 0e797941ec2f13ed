-- A list by name to which another comes, whose packages take the place of those of their names and architectures, is one.
use Rattle.std.proofs.Common.{◌≡◌, ◌≤◌, Bool, true, false, not, cond, ◌&&◌, ◌||◌, List, [], ◌∷◌, length, Result, Ok, Err, refl, sym, ap, ◌∙◌, nat_lt, ltb-false, true≢false, Ordering, Less, Equal, Greater}
use Rattle.std.specs.Ordering.{is_eq, ordering_reverse}
use Rattle.std.specs.Str.{bytes_eq}
use Rattle.std.specs.List.{AllByRecursion, filter, list_any}
use Rattle.std.proofs.lemmas.List.Elements.{All-from_recursion, recursion_from_All}
use Rattle.package_core.specs.Card.{Card}
use Rattle.package_core.specs.Order.{package_cmp, same_triple}
use Rattle.package_core.proofs.OrderLaws.{package_total}
use Rattle.package_list.specs.declared.list.TheConstants.{MOST_MEMBERS}
use Rattle.package_list.specs.declared.fault.ListFault.{ListFault}
use Rattle.package_list.specs.declared.fault.ListFault.TheVariants as faults
use Rattle.package_list.specs.Answers.{size_answer}
use Rattle.package_list.specs.Lists.{clash, clashes, has_clash, has_key, merged, same_key, union}
use Rattle.package_list.proofs.Keys.{key_total, same_key-is}
use Rattle.package_list.specs.Order.{key_cmp}
use Rattle.package_list.proofs.SortedLemmas.{union_ascending}
use Rattle.machine_state.specs.Lists.{IsKnown, IsNamedList}
use Rattle.machine_state.proofs.ListLemmas.{named_kept, union_all}

-- ---- what holds of each

pub none_of : {X : Type 0} (test : X → Bool) (xs : List X) → list_any test xs ≡ false → AllByRecursion (λ x. test x ≡ false) xs
none_of test [] h = tt
none_of test (x ∷ xs) h = by_test (test x) refl h (none_of test xs)
  where
    by_test : (b : Bool) → test x ≡ b → (b || list_any test xs) ≡ false → (list_any test xs ≡ false → AllByRecursion (λ y. test y ≡ false) xs) → AllByRecursion (λ y. test y ≡ false) (x ∷ xs)
    by_test true e g more = absurd (true≢false g)
    by_test false e g more = (e, more g)

pub none_any : {X : Type 0} (test : X → Bool) (xs : List X) → AllByRecursion (λ x. test x ≡ false) xs → list_any test xs ≡ false
none_any test [] h = refl
none_any test (x ∷ xs) h = (λ i. h.0 i || none_any test xs h.1 i)

pub each_so : {X : Type 0} (P Q : X → Type 0) → ((x : X) → P x → Q x) → (xs : List X) → AllByRecursion P xs → AllByRecursion Q xs
each_so P Q f [] h = tt
each_so P Q f (x ∷ xs) h = (f x h.0, each_so P Q f xs h.1)

pub each_kept : {X : Type 0} (P : X → Type 0) (test : X → Bool) (xs : List X) → AllByRecursion P xs → AllByRecursion P (filter test xs)
each_kept P test [] h = tt
each_kept P test (x ∷ xs) h = by_test (test x) (each_kept P test xs h.1)
  where
    by_test : (b : Bool) → AllByRecursion P (filter test xs) → AllByRecursion P (cond b (x ∷ filter test xs) (filter test xs))
    by_test true more = (h.0, more)
    by_test false more = more

-- what holds of each of both lists holds of each of the union
pub union_each : (P : Card → Type 0) (xs ys : List Card) → AllByRecursion P xs → AllByRecursion P ys → AllByRecursion P (union xs ys)
union_each P xs ys h g = recursion_from_All P (union xs ys) (union_all P xs ys (All-from_recursion P xs h) (All-from_recursion P ys g))

pub each_with : {X : Type 0} (P Q R : X → Type 0) → ((x : X) → P x → Q x → R x) → (xs : List X) → AllByRecursion P xs → AllByRecursion Q xs → AllByRecursion R xs
each_with P Q R f [] p q = tt
each_with P Q R f (x ∷ xs) p q = (f x p.0 q.0, each_with P Q R f xs p.1 q.1)

-- what holds of each two holds the other way round
pub each_turned : {X : Type 0} (R : X → X → Type 0) (xs ys : List X) → AllByRecursion (λ x. AllByRecursion (λ y. R x y) ys) xs → AllByRecursion (λ y. AllByRecursion (λ x. R x y) xs) ys
each_turned R xs [] h = tt
each_turned R xs (y ∷ ys) h = (
  each_so (λ x. AllByRecursion (λ z. R x z) (y ∷ ys)) (λ x. R x y) (λ x g. g.0) xs h,
  each_turned R xs ys (each_so (λ x. AllByRecursion (λ z. R x z) (y ∷ ys)) (λ x. AllByRecursion (λ z. R x z) ys) (λ x g. g.1) xs h),
)

-- what passes a filter passed its test
pub each_passed : {X : Type 0} (test : X → Bool) (xs : List X) → AllByRecursion (λ x. test x ≡ false) (filter (λ x. not (test x)) xs)
each_passed test [] = tt
each_passed test (x ∷ xs) = by_test (test x) refl (each_passed test xs)
  where
    by_test : (b : Bool) → test x ≡ b → AllByRecursion (λ y. test y ≡ false) (filter (λ y. not (test y)) xs)
        → AllByRecursion (λ y. test y ≡ false) (cond (not b) (x ∷ filter (λ y. not (test y)) xs) (filter (λ y. not (test y)) xs))
    by_test true e more = more
    by_test false e more = (e, more)

-- ---- names and architectures

turned_equal : (r s : Ordering) → r ≡ ordering_reverse s → is_eq r ≡ is_eq s
turned_equal r Less e = ap is_eq e
turned_equal r Equal e = ap is_eq e
turned_equal r Greater e = ap is_eq e

pub key_turned : (a b : Card) → same_key a b ≡ same_key b a
key_turned a b = same_key-is a b ∙ turned_equal (key_cmp a b) (key_cmp b a) (key_total.antisymm a b) ∙ sym (same_key-is b a)

-- two of other names or architectures don't clash
pub apart_keys : (q p : Card) → same_key q p ≡ false → clash q p ≡ false
unfolding same_key same_triple
apart_keys q p h = ap (λ b. b && not (is_eq (package_cmp q p))) (by_parts (bytes_eq q.name p.name) (bytes_eq q.version p.version) (bytes_eq q.arch p.arch) h)
  where
    by_parts : (n v a : Bool) → (n && a) ≡ false → (n && v && a) ≡ false
    by_parts false v a e = refl
    by_parts true false a e = refl
    by_parts true true a e = e

-- ---- a list that comes

module _ (known own more : List Card) (n : IsNamedList known own) (m : IsNamedList known more) where
  -- what stays of those before it
  abbrev kept : List Card
  kept = filter (λ x. not (has_key more x)) own

  kept_named : IsNamedList known kept
  kept_named = named_kept known own (λ x. not (has_key more x)) n

  -- none of them has the name and architecture of one of the source
  apart : AllByRecursion (λ x. AllByRecursion (λ q. same_key q x ≡ false) more) kept
  apart = each_so (λ x. has_key more x ≡ false) (λ x. AllByRecursion (λ q. same_key q x ≡ false) more) (λ x e. none_of (λ q. same_key q x) more e) kept (each_passed (has_key more) own)

  -- none clashes with one of both
  of_both : (p : Card) → AllByRecursion (λ q. clash q p ≡ false) kept → AllByRecursion (λ q. clash q p ≡ false) more → clashes (merged own more) p ≡ false
  of_both p first second = none_any (λ q. clash q p) (merged own more) (union_each (λ q. clash q p ≡ false) kept more first second)

  of_kept : AllByRecursion (λ p. clashes (merged own more) p ≡ false) kept
  of_kept =
      each_with (λ p. clashes kept p ≡ false) (λ p. AllByRecursion (λ q. same_key q p ≡ false) more) (λ p. clashes (merged own more) p ≡ false)
      (λ p e f. of_both p (none_of (λ q. clash q p) kept e) (each_so (λ q. same_key q p ≡ false) (λ q. clash q p ≡ false) (λ q g. apart_keys q p g) more f))
      kept (none_of (clashes kept) kept kept_named.apart) apart

  of_more : AllByRecursion (λ p. clashes (merged own more) p ≡ false) more
  of_more =
      each_with (λ p. clashes more p ≡ false) (λ p. AllByRecursion (λ q. same_key p q ≡ false) kept) (λ p. clashes (merged own more) p ≡ false)
      (λ p e f. of_both p (each_so (λ q. same_key p q ≡ false) (λ q. clash q p ≡ false) (λ q g. apart_keys q p (key_turned q p ∙ g)) kept f) (none_of (λ q. clash q p) more e))
      more (none_of (clashes more) more m.apart) (each_turned (λ x q. same_key q x ≡ false) kept more apart)

  merged_apart : has_clash (merged own more) ≡ false
  merged_apart = none_any (clashes (merged own more)) (merged own more) (union_each (λ p. clashes (merged own more) p ≡ false) kept more of_kept of_more)

  abbrev sized : Bool → Result (Unit {0}) ListFault
  sized b = cond b (Err faults.Full) (Ok tt)

  pub few_of : (xs : List Card) → size_answer MOST_MEMBERS xs ≡ Ok tt → length xs ≤ MOST_MEMBERS
  few_of xs h = by_size (nat_lt MOST_MEMBERS (length xs)) refl h
    where
      by_size : (b : Bool) → nat_lt MOST_MEMBERS (length xs) ≡ b → sized b ≡ Ok tt → length xs ≤ MOST_MEMBERS
      by_size true e g = cc
      by_size false e g = ltb-false MOST_MEMBERS (length xs) e

  pub named_merged : size_answer MOST_MEMBERS (merged own more) ≡ Ok tt → IsNamedList known (merged own more)
  named_merged h = record {
    sorted = union_ascending package_total kept more kept_named.sorted;
    apart = merged_apart;
    listed = union_all (IsKnown known) kept more kept_named.listed m.listed;
    few = few_of (merged own more) h;
  }
