-- What a valid state keeps to, one by one in order, and the other way round.
use Rattle.std.proofs.Common.{◌≡◌, ℕ, zero, suc, Bool, true, false, not, ◌&&◌, ◌||◌, if◌then◌else◌, List, [], ◌∷◌, ◌++◌, Some, IsFalse, All, refl, sym, ap, ◌∙◌, subst, arith, append-nil, append_assoc, Ordering, Less, Equal, Greater}
use Rattle.std.specs.Prelude.{slice_get}
use Rattle.std.specs.Ordering.{is_eq, ordering_reverse}
use Rattle.std.specs.List.{list_any}
use Rattle.std.proofs.lemmas.Bool.{or_parts}
use Rattle.std.proofs.lemmas.Cmp.{tied_itself}
use Rattle.package_core.specs.Card.{Card}
use Rattle.package_core.specs.Order.{package_cmp, triple_cmp, same_triple}
use Rattle.package_core.proofs.OrderLaws.{package_total, triple_total, same_triple-is}
use Rattle.package_list.specs.Sorted.{IsAscending, IsBelow, AllLess, equal_of}
use Rattle.package_list.specs.Lists.{clash, clashes, has_clash}
use Rattle.package_list.proofs.Pushes.{less_before, ascending_push}
use Rattle.machine_state.specs.Ascending as names
use Rattle.machine_state.specs.State.{IsKnown}
use Rattle.catalogue_lines.specs.PartForms.{MayJoin}
use Rattle.catalogue_lines.specs.Reading.{Each}

pub all_cons : {X : Type 0} (P : X → Type 0) (x : X) (xs : List X) → P x → All P xs → All P (x ∷ xs)
all_cons P x xs p h zero d l = p
all_cons P x xs p h (suc k) d l = h k d (omega arith)

pub all_tail : {X : Type 0} (P : X → Type 0) (x : X) (xs : List X) → All P (x ∷ xs) → All P xs
all_tail P x xs h k d l = h (suc k) d (omega arith)

pub all_none : {X : Type 0} (P : X → Type 0) → All P []
all_none P k d l = absurd (omega arith)

-- ---- packages in order
pub each_less : (done xs : List Card) → IsAscending package_cmp (done ++ xs) → Each (AllLess package_cmp) done xs
each_less done [] a = tt
each_less done (x ∷ xs) a = (less_before package_total done x xs a, each_less (done ++ x ∷ []) xs (subst (IsAscending package_cmp) (sym (append_assoc done (x ∷ []) xs)) a))

pub sorted_each : (Good : List Card → Card → Type 0) → ((done : List Card) (x : Card) → Good done x → AllLess package_cmp done x) → (done xs : List Card) → IsAscending package_cmp done → Each Good done xs → IsAscending package_cmp (done ++ xs)
sorted_each Good w done [] a e = subst (IsAscending package_cmp) (sym (append-nil done)) a
sorted_each Good w done (x ∷ xs) a e = subst (IsAscending package_cmp) (append_assoc done (x ∷ []) xs) (sorted_each Good w (done ++ x ∷ []) xs (ascending_push package_total done x a (w done x e.0)) e.1)

-- ---- a member and its equal
none_less : (x p : Card) → package_cmp x p ≡ Less → (xs : List Card) → equal_of package_cmp (x ∷ xs) p ≡ equal_of package_cmp xs p
none_less x p h xs = ap (λ o. if is_eq o then Some x else equal_of package_cmp xs p) h

below_at : (x : Card) (xs : List Card) (i : ℕ) (p : Card) → IsBelow package_cmp x xs → slice_get xs i ≡ Some p → package_cmp x p ≡ Less
below_at x [] i p b h = cc
below_at x (y ∷ ys) zero p b h = let same : y ≡ p = cc in ap (package_cmp x) (sym same) ∙ b.0
below_at x (y ∷ ys) (suc i) p b h = below_at x ys i p b.1 h

pub known_at : (xs : List Card) (i : ℕ) (p : Card) → IsAscending package_cmp xs → slice_get xs i ≡ Some p → IsKnown xs p
known_at [] i p a h = cc
known_at (x ∷ xs) zero p a h =
    let same : x ≡ p = cc in
    subst (λ (q : Card). IsKnown (x ∷ xs) q) same (ap (λ o. if is_eq o then Some x else equal_of package_cmp xs x) (tied_itself package_total x))
known_at (x ∷ xs) (suc i) p a h = none_less x p (below_at x xs i p a.0 h) xs ∙ known_at xs i p a.1 h

pub place_at : (xs : List Card) (p : Card) → IsKnown xs p → (i : ℕ) × (slice_get xs i ≡ Some p)
place_at [] p h = cc
place_at (x ∷ xs) p h = by_test (is_eq (package_cmp x p)) h (place_at xs p)
  where
    by_test : (b : Bool) → (if b then Some x else equal_of package_cmp xs p) ≡ Some p → (IsKnown xs p → (i : ℕ) × (slice_get xs i ≡ Some p)) → (i : ℕ) × (slice_get (x ∷ xs) i ≡ Some p)
    by_test true e more = (0, e)
    by_test false e more = let t = more e in (suc t.0, t.1)

-- ---- no clash
clash_turned : (q p : Card) → clash q p ≡ clash p q
clash_turned q p = (λ i. triple i && not (equal i))
  where
    reversed : (o : Ordering) → is_eq (ordering_reverse o) ≡ is_eq o
    reversed Less = refl
    reversed Equal = refl
    reversed Greater = refl

    triple : same_triple q p ≡ same_triple p q
    triple = same_triple-is q p ∙ ap is_eq (triple_total.antisymm q p) ∙ reversed (triple_cmp p q) ∙ sym (same_triple-is p q)

    equal : is_eq (package_cmp q p) ≡ is_eq (package_cmp p q)
    equal = ap is_eq (package_total.antisymm q p) ∙ reversed (package_cmp p q)

any_append : (f : Card → Bool) (xs ys : List Card) → list_any f xs ≡ false → list_any f ys ≡ false → list_any f (xs ++ ys) ≡ false
any_append f [] ys h g = g
any_append f (x ∷ xs) ys h g = let p = or_parts (f x) (list_any f xs) h in rw p.0 (any_append f xs ys p.1 g)

any_front : (f : Card → Bool) (xs ys : List Card) → list_any f (xs ++ ys) ≡ false → list_any f xs ≡ false
any_front f [] ys h = refl
any_front f (x ∷ xs) ys h = let p = or_parts (f x) (list_any f (xs ++ ys)) h in rw p.0 (any_front f xs ys p.1)

any_at : (f : Card → Bool) (xs : List Card) (y : Card) (ys : List Card) → list_any f (xs ++ y ∷ ys) ≡ false → f y ≡ false
any_at f [] y ys h = (or_parts (f y) (list_any f ys) h).0
any_at f (x ∷ xs) y ys h = any_at f xs y ys (or_parts (f x) (list_any f (xs ++ y ∷ ys)) h).1

-- none of the list clashes with one of either
any_either : (xs done : List Card) (x : Card) → list_any (clashes done) xs ≡ false → clashes xs x ≡ false → list_any (clashes (done ++ x ∷ [])) xs ≡ false
any_either [] done x h g = refl
any_either (y ∷ ys) done x h g =
    let p = or_parts (clashes done y) (list_any (clashes done) ys) h in
    let q = or_parts (clash y x) (clashes ys x) g in
    let one : clashes (x ∷ []) y ≡ false = ap (λ b. b || false) (clash_turned x y ∙ q.0) in
    rw (any_append (λ z. clash z y) done (x ∷ []) p.0 one) (any_either ys done x p.1 q.1)

no_own_clash : (x : Card) → clash x x ≡ false
no_own_clash x = ap (λ o. same_triple x x && not (is_eq o)) (tied_itself package_total x) ∙ and_false (same_triple x x)
  where
    and_false : (b : Bool) → (b && false) ≡ false
    and_false true = refl
    and_false false = refl

clash_push : (done : List Card) (x : Card) → has_clash done ≡ false → clashes done x ≡ false → has_clash (done ++ x ∷ []) ≡ false
clash_push done x h g =
    any_append (clashes (done ++ x ∷ [])) done (x ∷ []) (any_either done done x h g)
    (ap (λ b. b || false) (any_append (λ z. clash z x) done (x ∷ []) g (ap (λ b. b || false) (no_own_clash x))))

module _ (known : List Card) where
  pub apart_each : (done xs : List Card) → IsFalse (has_clash done) → Each (MayJoin known) done xs → IsFalse (has_clash (done ++ xs))
  apart_each done [] h e = ap has_clash (append-nil done) ∙ h
  apart_each done (x ∷ xs) h e = ap has_clash (sym (append_assoc done (x ∷ []) xs)) ∙ apart_each (done ++ x ∷ []) xs (clash_push done x h e.0.apart) e.1

  pub each_join : (done xs : List Card) → All (IsKnown known) xs → IsAscending package_cmp (done ++ xs) → IsFalse (has_clash (done ++ xs)) → Each (MayJoin known) done xs
  each_join done [] k a h = tt
  each_join done (x ∷ xs) k a h = (
    record {
      known_is = k 0 x (omega arith);
      after = less_before package_total done x xs a;
      apart = any_front (λ q. clash q x) done (x ∷ xs) (any_at (clashes (done ++ x ∷ xs)) done x xs h);
    },
    each_join (done ++ x ∷ []) xs (all_tail (IsKnown known) x xs k) (subst (IsAscending package_cmp) (sym (append_assoc done (x ∷ []) xs)) a) (ap has_clash (append_assoc done (x ∷ []) xs) ∙ h),
  )

  pub all_known : (done xs : List Card) → Each (MayJoin known) done xs → All (IsKnown known) xs
  all_known done [] e = all_none (IsKnown known)
  all_known done (x ∷ xs) e = all_cons (IsKnown known) x xs e.0.known_is (all_known (done ++ x ∷ []) xs e.1)
