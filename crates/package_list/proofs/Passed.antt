-- One pass over two lists, while no member of the second clashes in the union.
use Rattle.std.proofs.Common.{◌≡◌, ℕ, List, [], ◌∷◌, ◌++◌, length, arith, take, drop, append_assoc, Bool, true, false, cond, not, ◌&&◌, ◌||◌, Some, Result, Ok, Err, refl, sym, ap, ◌∙◌, subst, Less, Equal, Greater}
use Rattle.std.specs.Ordering.{is_eq}
use Rattle.std.specs.List.{list_any}
use Rattle.std.proofs.lemmas.Cmp.{tied_itself}
use Rattle.std.proofs.lemmas.List.{take_all, drop_all}
use Rattle.package_core.specs.declared.package.Package.{Package}
use Rattle.package_core.specs.Card.{triple}
use Rattle.package_core.specs.Order.{package_cmp, same_triple}
use Rattle.package_core.proofs.OrderLaws.{package_total}
use Rattle.package_list.specs.declared.fault.ListFault.{ListFault}
use Rattle.package_list.specs.declared.fault.ListFault.TheVariants.{Conflict, Full, OutOfMemory}
use Rattle.package_list.specs.Sorted.{IsBelow, IsAscending, AllLess, IsBetween, put, last_is, first_is}
use Rattle.package_list.specs.Lists.{union, clash, clashes}
use Rattle.package_list.specs.Answers.{Answers, FaultIs, first_clash, conflict_or}
use Rattle.package_list.proofs.SortedLemmas.{BeforeFirst, Joined, joined_less, joined_equal, joined_greater, joined_ends, put_ascending, put_behind, put_before, turned, below_more}
use Rattle.package_list.proofs.Beside.{clash_beside, behind_equal}
use Rattle.package_list.proofs.Gathers.{or_false, or_assoc, any_union, clash_alike}

pub ends_in : (xs : List Package) (n : ℕ) (p : Package) → n ≡ length xs → IsAscending package_cmp xs → AllLess package_cmp xs p → last_is (λ q. same_triple q p) (take n xs) ≡ clashes xs p
ends_in xs n p e a h =
    let whole : take n xs ≡ xs = take_all n xs (omega (arith, e)) in
    let past : drop n xs ≡ [] = drop_all n xs (omega (arith, e)) in
    sym (clash_beside xs n p a (subst (λ (l : List Package). AllLess package_cmp l p) (sym whole) h) (subst (IsBelow package_cmp p) (sym past) tt)
    ∙ ap (λ l. last_is (λ q. same_triple q p) (take n xs) || first_is (λ q. same_triple q p) l) past ∙ or_false (last_is (λ q. same_triple q p) (take n xs)))

pub begins_in : (xs : List Package) (p : Package) → IsAscending package_cmp xs → IsBelow package_cmp p xs → first_is (λ q. same_triple q p) xs ≡ clashes xs p
begins_in xs p a b = sym (clash_beside xs 0 p a tt b)

any_append : (f : Package → Bool) (xs ys : List Package) → list_any f (xs ++ ys) ≡ (list_any f xs || list_any f ys)
any_append f [] ys = refl
any_append f (x ∷ xs) ys = ap (λ b. f x || b) (any_append f xs ys) ∙ or_assoc (f x) (list_any f xs) (list_any f ys)

no_own_clash : (x p : Package) → package_cmp x p ≡ Equal → clash x p ≡ false
no_own_clash x p h = ap (λ r. same_triple x p && not (is_eq r)) h ∙ and_false (same_triple x p)
  where
    and_false : (b : Bool) → (b && false) ≡ false
    and_false true = refl
    and_false false = refl

equal_adds_none : (x p : Package) (xs : List Package) → package_cmp x p ≡ Equal → clashes (x ∷ xs) p ≡ clashes xs p
equal_adds_none x p xs h = ap (λ b. b || clashes xs p) (no_own_clash x p h)

-- a clash with what the next of the second list meets
abbrev pub meets : List Package → List Package → List Package → Package → Bool
meets all left right y = clashes all y || (clashes left y || clashes right y)

-- what a test of it tells
abbrev pub verdict : Bool → Package → Result (Unit {0}) ListFault
verdict b y = cond b (Err (Conflict (triple y))) (Ok tt)

in_union : (all left right : List Package) (y : Package) → clashes (union (all ++ left) (y ∷ right)) y ≡ meets all left right y
in_union all left right y =
    any_union {R = package_cmp} (λ q. clash q y) (clash_alike y) (all ++ left) (y ∷ right)
    ∙ (λ i. any_append (λ q. clash q y) all left i || equal_adds_none y y right (tied_itself package_total y) i)
    ∙ sym (or_assoc (clashes all y) (clashes left y) (clashes right y))

-- a pass has come so far, and no member of the second list that it has passed clashes
pub record Apart (all left right xs ys : List Package) : Type 0 where
  pub joined : Joined package_total all left right xs ys
  pub ascending : IsAscending package_cmp (all ++ left)
  pub apart : first_clash (union xs ys) right ≡ first_clash (union xs ys) ys

front : (xs ys : List Package) → IsAscending package_cmp (xs ++ ys) → IsAscending package_cmp xs
front [] ys a = tt
front (x ∷ xs) ys a = (below_front xs a.0, front xs ys a.1)
  where
    below_front : (zs : List Package) → IsBelow package_cmp x (zs ++ ys) → IsBelow package_cmp x zs
    below_front [] b = tt
    below_front (z ∷ zs) b = (b.0, below_front zs b.1)

back : (xs ys : List Package) → IsAscending package_cmp (xs ++ ys) → IsAscending package_cmp ys
back [] ys a = a
back (x ∷ xs) ys a = back xs ys a.1

module _ (all left right xs ys : List Package) (y : Package) (right' : List Package) (f : right ≡ y ∷ right') (j : Apart all left right xs ys) where
  up : IsAscending package_cmp (y ∷ right')
  up = subst (IsAscending package_cmp) f j.joined.ascending

  before : AllLess package_cmp all y
  before = subst (BeforeFirst package_total all) f j.joined.before

  -- the next of the second list stands between what is joined and what is left
  pub next_between : (left' : List Package) → IsAscending package_cmp left' → IsBelow package_cmp y left' → IsBetween package_cmp all left' right' y
  next_between left' a b = record { before_up = front all left j.ascending; left_up = a; right_up = up.1; before_less = before; left_above = b; right_above = up.0 }

  pub between_equal : (x : Package) (left' : List Package) → left ≡ x ∷ left' → package_cmp x y ≡ Equal → IsBetween package_cmp all left' right' y
  between_equal x left' e h =
      let a : IsAscending package_cmp (x ∷ left') = subst (IsAscending package_cmp) e (back all left j.ascending) in
      next_between left' a.1 (behind_equal x y (x ∷ left') left' refl a (ap is_eq h))

  pub between_greater : (x : Package) (left' : List Package) → left ≡ x ∷ left' → package_cmp x y ≡ Greater → IsBetween package_cmp all left right' y
  between_greater x left' e h =
      let a : IsAscending package_cmp (x ∷ left') = subst (IsAscending package_cmp) e (back all left j.ascending) in
      let t : package_cmp y x ≡ Less = turned package_total x y h in
      next_between left (back all left j.ascending) (subst (IsBelow package_cmp y) (sym e) (t, below_more package_total y x left' t a.0))

  meets_is : clashes (union xs ys) y ≡ meets all left right' y
  meets_is = ap (λ l. clashes l y) (sym j.joined.same ∙ ap (union (all ++ left)) f) ∙ in_union all left right' y

  first_is_next : (b : Bool) → meets all left right' y ≡ b → first_clash (union xs ys) ys ≡ cond b (Some y) (first_clash (union xs ys) right')
  first_is_next b h = sym j.apart ∙ ap (first_clash (union xs ys)) f ∙ ap (λ b. cond b (Some y) (first_clash (union xs ys) right')) (meets_is ∙ h)

  passed : (b : Bool) (u : Unit {0}) → meets all left right' y ≡ b → Answers (Ok u) (verdict b y) → first_clash (union xs ys) right' ≡ first_clash (union xs ys) ys
  passed true u m h = cc
  passed false u m h = sym (first_is_next false m)

  told : (e : ListFault) (b : Bool) → meets all left right' y ≡ b → FaultIs e (verdict b y) → (answer : Result (Unit {0}) ListFault) → FaultIs e (conflict_or (first_clash (union xs ys) ys) answer)
  told OutOfMemory b m h answer = tt
  told (Conflict t) true m h answer = ap (λ o. conflict_or o answer) (first_is_next true m) ∙ h
  told (Conflict t) false m h answer = cc
  told Full true m h answer = cc
  told Full false m h answer = cc

  -- an equal in the first list adds no clash
  meets_equal : (x : Package) (left' : List Package) → left ≡ x ∷ left' → package_cmp x y ≡ Equal → meets all left right' y ≡ meets all left' right' y
  meets_equal x left' e h = ap (λ b. clashes all y || (b || clashes right' y)) (ap (λ l. clashes l y) e ∙ equal_adds_none x y left' h)

  pub told_here : (e : ListFault) → FaultIs e (verdict (meets all left right' y) y) → (answer : Result (Unit {0}) ListFault) → FaultIs e (conflict_or (first_clash (union xs ys) ys) answer)
  told_here e = told e (meets all left right' y) refl

  pub told_equal : (x : Package) (left' : List Package) (e : ListFault) → left ≡ x ∷ left' → package_cmp x y ≡ Equal → FaultIs e (verdict (meets all left' right' y) y) → (answer : Result (Unit {0}) ListFault) → FaultIs e (conflict_or (first_clash (union xs ys) ys) answer)
  told_equal x left' e f h = told e (meets all left' right' y) (meets_equal x left' f h)

  more_up : put package_cmp left y ≡ y ∷ left → IsAscending package_cmp ((all ++ y ∷ []) ++ left)
  more_up h =
      subst (IsAscending package_cmp) (put_behind package_total all left y before ∙ ap (λ l. all ++ l) h ∙ sym (append_assoc all (y ∷ []) left))
      (put_ascending package_total (all ++ left) y j.ascending)

  pub apart_equal : (x : Package) (left' : List Package) (u : Unit {0}) → left ≡ x ∷ left' → package_cmp x y ≡ Equal → Answers (Ok u) (verdict (meets all left' right' y) y) → Apart all left right' xs ys
  apart_equal x left' u e h k = record {
    joined = joined_equal package_total all left right xs ys x y left' right' e f h j.joined;
    ascending = j.ascending;
    apart = passed (meets all left' right' y) u (meets_equal x left' e h) k;
  }

  pub apart_greater : (x : Package) (all' left' : List Package) (u : Unit {0}) → left ≡ x ∷ left' → all' ≡ all ++ y ∷ [] → package_cmp x y ≡ Greater → Answers (Ok u) (verdict (meets all left right' y) y) → Apart all' left right' xs ys
  apart_greater x all' left' u e g h k = record {
    joined = joined_greater package_total all left right xs ys x y all' left' right' e f g h j.joined;
    ascending = subst (λ (l : List Package). IsAscending package_cmp (l ++ left)) (sym g) (more_up (ap (λ l. put package_cmp l y) e ∙ put_before package_total x y left' h ∙ ap (λ l. y ∷ l) (sym e)));
    apart = passed (meets all left right' y) u refl k;
  }

  pub apart_ends : (all' : List Package) (u : Unit {0}) → left ≡ [] → all' ≡ all ++ y ∷ [] → Answers (Ok u) (verdict (meets all left right' y) y) → Apart all' left right' xs ys
  apart_ends all' u e g k = record {
    joined = joined_ends package_total all left right xs ys y all' right' e f g j.joined;
    ascending = subst (λ (l : List Package). IsAscending package_cmp (l ++ left)) (sym g) (more_up (ap (λ l. put package_cmp l y) e ∙ ap (λ l. y ∷ l) (sym e)));
    apart = passed (meets all left right' y) u refl k;
  }

  pub apart_less : (x : Package) (all' left' : List Package) → left ≡ x ∷ left' → all' ≡ all ++ x ∷ [] → package_cmp x y ≡ Less → Apart all' left' right xs ys
  apart_less x all' left' e g h = record {
    joined = joined_less package_total all left right xs ys x y all' left' right' e f g h j.joined;
    ascending = subst (IsAscending package_cmp) (sym (ap (λ l. l ++ left') g ∙ append_assoc all (x ∷ []) left' ∙ ap (λ l. all ++ l) (sym e))) j.ascending;
    apart = j.apart;
  }
