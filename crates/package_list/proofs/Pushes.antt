-- One more behind all members.
use Rattle.std.proofs.Common.{◌≡◌, List, [], ◌∷◌, ◌++◌, Bool, true, false, not, ◌||◌, take, drop, length, refl, sym, ap, ◌∙◌, subst, Ordering, Less, Equal, Greater, IsTrue, IsFalse, ◌↔◌, map}
use Rattle.std.specs.Ordering.{is_lt}
use Rattle.std.specs.Cmp.{IsTotalOrder}
use Rattle.std.proofs.lemmas.List.{map-append}
use Rattle.package_core.specs.declared.package.Package.{Package}
use Rattle.package_core.specs.Order.{package_cmp, same_triple}
use Rattle.package_core.proofs.OrderLaws.{package_total}
use Rattle.package_list.specs.Sorted.{IsBelow, IsAscending, AllLess, last_is, first_is}
use Rattle.package_list.specs.Lists.{clashes}
use Rattle.package_list.proofs.Beside.{clash_beside, last_is_push}

module _ {X : Type 0} {R : X → X → Ordering} (o : IsTotalOrder R) where
  below_last : (z x : X) (xs : List X) → IsBelow R z (xs ++ x ∷ []) → R z x ≡ Less
  below_last z x [] b = b.0
  below_last z x (y ∷ ys) b = below_last z x ys b.1

  -- each is less than what the last is less than
  pub all_less_by_last : (xs : List X) (x y : X) → IsAscending R (xs ++ x ∷ []) → R x y ≡ Less → AllLess R (xs ++ x ∷ []) y
  all_less_by_last [] x y a h = (h, tt)
  all_less_by_last (z ∷ zs) x y a h = (o.trans z x y (below_last z x zs a.0) h, all_less_by_last zs x y a.1 h)

  pub last_less : (xs : List X) (x y : X) → AllLess R (xs ++ x ∷ []) y → R x y ≡ Less
  last_less [] x y h = h.0
  last_less (z ∷ zs) x y h = last_less zs x y h.1

  below_push : (x : X) (xs : List X) (y : X) → IsBelow R x xs → R x y ≡ Less → IsBelow R x (xs ++ y ∷ [])
  below_push x [] y b h = (h, tt)
  below_push x (z ∷ zs) y b h = (b.0, below_push x zs y b.1 h)

  pub ascending_push : (xs : List X) (y : X) → IsAscending R xs → AllLess R xs y → IsAscending R (xs ++ y ∷ [])
  ascending_push [] y a h = (tt, tt)
  ascending_push (x ∷ xs) y a h = (below_push x xs y a.0 h.0, ascending_push xs y a.1 h.1)

  -- a front of an ascending list is less than the next
  pub less_before : (xs : List X) (y : X) (ys : List X) → IsAscending R (xs ++ y ∷ ys) → AllLess R xs y
  less_before [] y ys a = tt
  less_before (x ∷ xs) y ys a = (at xs a.0, less_before xs y ys a.1)
    where
      at : (xs : List X) → IsBelow R x (xs ++ y ∷ ys) → R x y ≡ Less
      at [] b = b.0
      at (z ∷ zs) b = at zs b.1

take-length : {X : Type 0} (xs : List X) → take (length xs) xs ≡ xs
take-length [] = refl
take-length (x ∷ xs) = ap (λ l. x ∷ l) (take-length xs)

drop-length : {X : Type 0} (xs : List X) → drop (length xs) xs ≡ []
drop-length [] = refl
drop-length (x ∷ xs) = drop-length xs

-- who is behind all members clashes with one exactly where the last has the triple
pub clash_last : (xs : List Package) (p : Package) → IsAscending package_cmp xs → AllLess package_cmp xs p → clashes xs p ≡ last_is (λ q. same_triple q p) xs
clash_last xs p a h =
    clash_beside xs (length xs) p a (subst (λ (l : List Package). AllLess package_cmp l p) (sym (take-length xs)) h) (subst (IsBelow package_cmp p) (sym (drop-length xs)) tt)
    ∙ (λ i. last_is (λ q. same_triple q p) (take-length xs i) || first (drop-length xs i))
    ∙ or_false (last_is (λ q. same_triple q p) xs)
  where
    first : List Package → Bool
    first l = first_is (λ q. same_triple q p) l

    or_false : (b : Bool) → (b || false) ≡ b
    or_false true = refl
    or_false false = refl

pub may_follow_is : (less : Bool) (has : Bool) (xs : List Package) (p : Package) → IsAscending package_cmp xs → less ≡ true → (IsTrue less ↔ AllLess package_cmp xs p) → has ≡ last_is (λ q. same_triple q p) xs
    → IsTrue (not has) ↔ (AllLess package_cmp xs p × IsFalse (clashes xs p))
may_follow_is less has xs p a t h e = (
  λ k. (h.0 t, clash_last xs p a (h.0 t) ∙ sym e ∙ turned has k),
  λ k. ap not (e ∙ sym (clash_last xs p a k.0) ∙ k.1),
)
  where
    turned : (b : Bool) → not b ≡ true → b ≡ false
    turned true k = cc
    turned false k = refl

pub behind_by_last : (lt : Bool) (r : Ordering) (whole front : List Package) (last p : Package) → IsAscending package_cmp whole → whole ≡ front ++ last ∷ [] → lt ≡ is_lt r → r ≡ package_cmp last p
    → IsTrue lt ↔ AllLess package_cmp whole p
behind_by_last lt r whole front last p a e h k = (
  λ t. subst (λ (l : List Package). AllLess package_cmp l p) (sym e) (all_less_by_last package_total front last p (subst (IsAscending package_cmp) e a) (less (package_cmp last p) (ap is_lt (sym k) ∙ sym h ∙ t))),
  λ l. h ∙ ap is_lt (k ∙ last_less package_total front last p (subst (λ (l : List Package). AllLess package_cmp l p) e l)),
)
  where
    less : (o : Ordering) → is_lt o ≡ true → o ≡ Less
    less Less h = refl
    less Equal h = cc
    less Greater h = cc

pub mapped_push : {A B : Type 0} (f : A → B) (xs front : List A) (a : A) → xs ≡ front ++ a ∷ [] → map f xs ≡ map f front ++ f a ∷ []
mapped_push f xs front a e = ap (map f) e ∙ map-append f front (a ∷ [])

pub last_of : (test : Package → Bool) (whole front : List Package) (last : Package) (b : Bool) → whole ≡ front ++ last ∷ [] → b ≡ test last → b ≡ last_is test whole
last_of test whole front last b e h = h ∙ sym (last_is_push test front last) ∙ ap (last_is test) (sym e)

pub pushed_ascending : (whole before : List Package) (p : Package) → IsAscending package_cmp before → AllLess package_cmp before p → whole ≡ before ++ p ∷ [] → IsAscending package_cmp whole
pushed_ascending whole before p a h e = subst (IsAscending package_cmp) (sym e) (ascending_push package_total before p a h)
