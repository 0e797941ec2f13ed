-- Packages joined one after the other, where no two of those before have one triple.
use Rattle.std.proofs.Common.{◌≡◌, ℕ, List, [], ◌∷◌, ◌++◌, length, nat_lt, Bool, true, false, cond, not, ◌&&◌, ◌||◌, Option, Some, None, Result, Ok, Err, refl, sym, ap, ◌∙◌, subst, Ordering, Less, Equal, Greater}
use Rattle.std.specs.Ordering.{is_eq, ordering_then, ordering_reverse, match_ordering}
use Rattle.std.specs.List.{list_any, find, AllByRecursion}
use Rattle.std.specs.List.Sorted.{IsStrictlySortedBy}
use Rattle.std.specs.Option.{option_or}
use Rattle.std.specs.Result.{OnOk, MatchResult}
use Rattle.std.specs.BTreeSet.{insert_key}
use Rattle.package_core.specs.declared.package.Package.{Package}
use Rattle.package_core.specs.Card.{triple}
use Rattle.package_core.specs.Order.{package_cmp, triple_cmp, body_cmp, same_triple}
use Rattle.package_core.proofs.OrderLaws.{triple_total, package_total, same_triple-is}
use Rattle.package_list.specs.declared.list.TheConstants.{MOST_MEMBERS}
use Rattle.package_list.specs.declared.fault.ListFault.{ListFault}
use Rattle.package_list.specs.declared.fault.ListFault.TheVariants.{Conflict, Full, OutOfMemory}
use Rattle.package_list.specs.Sorted.{IsBelow, IsAscending, put, placed, union, has}
use Rattle.package_list.specs.Lists.{has_member, clashes, clash, joined}
use Rattle.package_list.specs.Answers.{Answers, FaultIs, insert_answer, refusal, first_refusal, err_or, join_answer}
use Rattle.package_list.proofs.SortedLemmas.{put_has, union_ascending}
use Rattle.package_list.proofs.Beside.{tied, triple_begins}
use Rattle.package_list.proofs.Triples.{decided}

pub or_false : (b : Bool) → (b || false) ≡ b
or_false true = refl
or_false false = refl

pub or_assoc : (a b c : Bool) → (a || (b || c)) ≡ ((a || b) || c)
or_assoc true b c = refl
or_assoc false b c = refl

or_back : (a b : Bool) → (a || b) ≡ (b || a)
or_back true true = refl
or_back true false = refl
or_back false true = refl
or_back false false = refl

or_again : (a b c : Bool) → a ≡ c → (a || b) ≡ ((a || b) || c)
or_again true b c e = refl
or_again false true c e = refl
or_again false false c e = e

module _ {X : Type 0} {R : X → X → Ordering} (f : X → Bool) (alike : (x y : X) → R x y ≡ Equal → f x ≡ f y) where
  any_put : (xs : List X) (y : X) → list_any f (put R xs y) ≡ (list_any f xs || f y)
  any_put [] y = or_false (f y)
  any_put (x ∷ xs) y = by_order (R x y) refl (any_put xs y)
    where
      by_order : (r : Ordering) → R x y ≡ r → list_any f (put R xs y) ≡ (list_any f xs || f y) → list_any f (placed R r x y xs (put R xs y)) ≡ ((f x || list_any f xs) || f y)
      by_order Less h more = ap (λ b. f x || b) more ∙ or_assoc (f x) (list_any f xs) (f y)
      by_order Equal h more = or_again (f x) (list_any f xs) (f y) (alike x y h)
      by_order Greater h more = or_back (f y) (f x || list_any f xs)

  -- where equals answer alike, a member of a union passes the test exactly where one of either list does
  pub any_union : (xs ys : List X) → list_any f (union R xs ys) ≡ (list_any f xs || list_any f ys)
  any_union xs [] = sym (or_false (list_any f xs))
  any_union xs (y ∷ ys) = any_union (put R xs y) ys ∙ ap (λ b. b || list_any f ys) (any_put xs y) ∙ sym (or_assoc (list_any f xs) (f y) (list_any f ys))

pub union_push : {X : Type 0} (R : X → X → Ordering) (xs ys : List X) (y : X) → union R xs (ys ++ y ∷ []) ≡ put R (union R xs ys) y
union_push R xs [] y = refl
union_push R xs (z ∷ ys) y = union_push R (put R xs z) ys y

pub has_is_any : {X : Type 0} (R : X → X → Ordering) (xs : List X) (p : X) → has R xs p ≡ list_any (λ q. is_eq (R q p)) xs
has_is_any R [] p = refl
has_is_any R (x ∷ xs) p = ap (λ b. is_eq (R x p) || b) (has_is_any R xs p)

equal_triple : (t s : Ordering) → ordering_then t s ≡ Equal → t ≡ Equal
equal_triple Less s h = cc
equal_triple Equal s h = refl
equal_triple Greater s h = cc

-- equals clash with the same
pub clash_alike : (p x y : Package) → package_cmp x y ≡ Equal → clash x p ≡ clash y p
clash_alike p x y e =
    let t : triple_cmp x y ≡ Equal = equal_triple (triple_cmp x y) (body_cmp x y) (sym (triple_begins x y) ∙ e) in
    let s : same_triple x p ≡ same_triple y p = same_triple-is x p ∙ ap is_eq (triple_total.congr x y p t) ∙ sym (same_triple-is y p) in
    (λ i. s i && not (is_eq (package_total.congr x y p e i)))

has_joined : (before : List Package) (p : Package) → has_member before p ≡ has_member (joined before) p
has_joined before p =
    has_is_any package_cmp before p ∙ sym (any_union (λ q. is_eq (package_cmp q p)) (λ x y e. ap is_eq (package_total.congr x y p e)) [] before)
    ∙ sym (has_is_any package_cmp (joined before) p)

clashes_joined : (before : List Package) (p : Package) → clashes before p ≡ clashes (joined before) p
clashes_joined before p = sym (any_union {R = package_cmp} (λ q. clash q p) (clash_alike p) [] before)

abbrev err_part : Result Bool ListFault → Option ListFault
err_part (Ok b) = None
err_part (Err e) = Some e

by_tests : (p : Package) (h c l : Bool) → cond h None (cond c (Some (Conflict (triple p))) (cond l None (Some Full))) ≡ err_part (cond h (Ok false) (cond c (Err (Conflict (triple p))) (cond l (Ok true) (Err Full))))
by_tests p true c l = refl
by_tests p false true l = refl
by_tests p false false true = refl
by_tests p false false false = refl

-- what is refused is what an insert refuses
refused : (before : List Package) (p : Package) → refusal before p ≡ err_part (insert_answer (joined before) p)
refused before p =
    let l : Bool = nat_lt (length (joined before)) MOST_MEMBERS in
    (λ i. cond (has_joined before p i) None (cond (clashes_joined before p i) (Some (Conflict (triple p))) (cond l None (Some Full))))
    ∙ by_tests p (has_member (joined before) p) (clashes (joined before) p) l

pub refused_in_turn : (before : List Package) (p : Package) → MatchResult (insert_answer (joined before) p) (λ _. refusal before p ≡ None) (λ e. refusal before p ≡ Some e)
refused_in_turn before p = by_answer (insert_answer (joined before) p) (refused before p)
  where
    by_answer : (r : Result Bool ListFault) → refusal before p ≡ err_part r → MatchResult r (λ _. refusal before p ≡ None) (λ e. refusal before p ≡ Some e)
    by_answer (Ok b) h = h
    by_answer (Err e) h = h

pub goes_on : (before rest : List Package) (p : Package) (w : Option ListFault) (b : Bool) → first_refusal before (p ∷ rest) ≡ w → insert_answer (joined before) p ≡ Ok b → first_refusal (before ++ p ∷ []) rest ≡ w
goes_on before rest p w b h e = ap (λ r. option_or r (first_refusal (before ++ p ∷ []) rest)) (sym (refused before p ∙ ap err_part e)) ∙ h

stops : (before rest ps : List Package) (p : Package) (e : ListFault) → first_refusal before (p ∷ rest) ≡ first_refusal [] ps → insert_answer (joined before) p ≡ Err e → join_answer ps ≡ Err e
stops before rest ps p e h g =
    ap (λ r. err_or r (joined ps)) (sym h ∙ ap (λ r. option_or r (first_refusal (before ++ p ∷ []) rest)) (refused before p ∙ ap err_part g))

pub stops_at : (before rest ps : List Package) (p : Package) (e : ListFault) → first_refusal before (p ∷ rest) ≡ first_refusal [] ps → FaultIs e (insert_answer (joined before) p) → FaultIs e (join_answer ps)
stops_at before rest ps p OutOfMemory h g = tt
stops_at before rest ps p (Conflict t) h g = stops before rest ps p (Conflict t) h g
stops_at before rest ps p Full h g = stops before rest ps p Full h g

ok_is : (r : Option ListFault) (x keys : List Package) → err_or r x ≡ Ok keys → x ≡ keys
ok_is None x keys h = cc
ok_is (Some e) x keys h = cc

-- what packages are joined into ascends
pub joined_ascends : (ps keys : List Package) → join_answer ps ≡ Ok keys → IsAscending package_cmp keys
joined_ascends ps keys h = subst (IsAscending package_cmp) (ok_is (first_refusal [] ps) (joined ps) keys h) (union_ascending package_total [] ps tt)

-- ---- a set that has one package of each triple
below : (x : Package) (xs : List Package) → AllByRecursion (λ y. triple_cmp x y ≡ Less) xs → IsBelow triple_cmp x xs
below x [] h = tt
below x (y ∷ ys) h = (h.0, below x ys h.1)

pub apart : (xs : List Package) → IsStrictlySortedBy triple_cmp xs → IsAscending triple_cmp xs
unfolding IsStrictlySortedBy
apart [] h = tt
apart (x ∷ xs) h = (below x xs h.0, apart xs h.1)

less_in_all : (x y : Package) → triple_cmp x y ≡ Less → package_cmp x y ≡ Less
less_in_all x y h = triple_begins x y ∙ ap (λ t. ordering_then t (body_cmp x y)) h

below_in_all : (x : Package) (xs : List Package) → IsBelow triple_cmp x xs → IsBelow package_cmp x xs
below_in_all x [] b = tt
below_in_all x (y ∷ ys) b = (less_in_all x y b.0, below_in_all x ys b.1)

pub ascending_in_all : (xs : List Package) → IsAscending triple_cmp xs → IsAscending package_cmp xs
ascending_in_all [] a = tt
ascending_in_all (x ∷ xs) a = (below_in_all x xs a.0, ascending_in_all xs a.1)

turned_eq : (t : Ordering) → is_eq (ordering_reverse t) ≡ is_eq t
turned_eq Less = refl
turned_eq Equal = refl
turned_eq Greater = refl

-- the members of p's triple
abbrev pub of_triple : Package → Package → Bool
of_triple p q = is_eq (triple_cmp p q)

back : (p q : Package) → is_eq (triple_cmp q p) ≡ of_triple p q
back p q = ap is_eq (triple_total.antisymm q p) ∙ turned_eq (triple_cmp p q)

module _ (p : Package) (f : Package → Bool) (inside : (q : Package) → of_triple p q ≡ false → f q ≡ false) where
  none_pass : (xs : List Package) → find (of_triple p) xs ≡ None → list_any f xs ≡ false
  none_pass [] h = refl
  none_pass (x ∷ xs) h = by_test (of_triple p x) refl h (none_pass xs)
    where
      by_test : (b : Bool) → of_triple p x ≡ b → cond b (Some x) (find (of_triple p) xs) ≡ None → (find (of_triple p) xs ≡ None → list_any f xs ≡ false) → (f x || list_any f xs) ≡ false
      by_test true e h more = cc
      by_test false e h more = rw (inside x e) (more h)

  none_behind : (x : Package) (xs : List Package) → triple_cmp p x ≡ Equal → IsBelow triple_cmp x xs → list_any f xs ≡ false
  none_behind x [] e b = refl
  none_behind x (z ∷ zs) e b = rw (inside z (ap is_eq (triple_total.congr p x z e ∙ b.0))) (none_behind x zs e b.1)

  one_passes : (xs : List Package) (m : Package) → IsAscending triple_cmp xs → find (of_triple p) xs ≡ Some m → list_any f xs ≡ f m
  one_passes [] m a h = cc
  one_passes (x ∷ xs) m a h = by_test (of_triple p x) refl h (one_passes xs m a.1)
    where
      the_one : (x m : Package) → Some x ≡ Some m → x ≡ m
      the_one x m e = cc

      by_test : (b : Bool) → of_triple p x ≡ b → cond b (Some x) (find (of_triple p) xs) ≡ Some m → (find (of_triple p) xs ≡ Some m → list_any f xs ≡ f m) → (f x || list_any f xs) ≡ f m
      by_test true e h more = ap (λ b. f x || b) (none_behind x xs (tied (triple_cmp p x) e) a.0) ∙ or_false (f x) ∙ ap f (the_one x m h)
      by_test false e h more = rw (inside x e) (more h)

equal_inside : (p q : Package) → of_triple p q ≡ false → is_eq (package_cmp q p) ≡ false
equal_inside p q h =
    let n : is_eq (triple_cmp q p) ≡ false = back p q ∙ h in
    ap is_eq (triple_begins q p ∙ decided (triple_cmp q p) (body_cmp q p) n) ∙ n

clash_inside : (p q : Package) → of_triple p q ≡ false → clash q p ≡ false
clash_inside p q h = ap (λ b. b && not (is_eq (package_cmp q p))) (same_triple-is q p ∙ back p q ∙ h)

has_found : (xs : List Package) (p m : Package) → IsAscending triple_cmp xs → find (of_triple p) xs ≡ Some m → has_member xs p ≡ is_eq (package_cmp m p)
has_found xs p m a h = has_is_any package_cmp xs p ∙ one_passes p (λ q. is_eq (package_cmp q p)) (equal_inside p) xs m a h

of_found : (xs : List Package) (p m : Package) → find (of_triple p) xs ≡ Some m → of_triple p m ≡ true
of_found [] p m h = cc
of_found (x ∷ xs) p m h = by_test (of_triple p x) refl h (of_found xs p m)
  where
    by_test : (b : Bool) → of_triple p x ≡ b → cond b (Some x) (find (of_triple p) xs) ≡ Some m → (find (of_triple p) xs ≡ Some m → of_triple p m ≡ true) → of_triple p m ≡ true
    by_test true e h more = ap (of_triple p) (sym (the_one x m h)) ∙ e
      where
        the_one : (x m : Package) → Some x ≡ Some m → x ≡ m
        the_one x m e = cc
    by_test false e h more = more h

clash_found : (xs : List Package) (p m : Package) → IsAscending triple_cmp xs → find (of_triple p) xs ≡ Some m → clashes xs p ≡ not (is_eq (package_cmp m p))
clash_found xs p m a h =
    one_passes p (λ q. clash q p) (clash_inside p) xs m a h
    ∙ ap (λ b. b && not (is_eq (package_cmp m p))) (same_triple-is m p ∙ back p m ∙ of_found xs p m h)

-- a member of p's triple decides
pub found_decides : (xs : List Package) (p m : Package) → IsStrictlySortedBy triple_cmp xs → find (of_triple p) xs ≡ Some m → insert_answer xs p ≡ cond (is_eq (package_cmp m p)) (Ok false) (Err (Conflict (triple p)))
found_decides xs p m s h =
    let l : Bool = nat_lt (length xs) MOST_MEMBERS in
    (λ i. cond (has_found xs p m (apart xs s) h i) (Ok false) (cond (clash_found xs p m (apart xs s) h i) (Err (Conflict (triple p))) (cond l (Ok true) (Err Full))))
    ∙ by_test (is_eq (package_cmp m p)) l
  where
    by_test : (b l : Bool) → cond b (Ok false) (cond (not b) (Err (Conflict (triple p))) (cond l (Ok true) (Err Full))) ≡ cond b (Ok false) (Err (Conflict (triple p)))
    by_test true l = refl
    by_test false l = refl

-- and stays where it is p's equal
pub found_stays : (xs : List Package) (p m : Package) → IsStrictlySortedBy triple_cmp xs → find (of_triple p) xs ≡ Some m → is_eq (package_cmp m p) ≡ true → put package_cmp xs p ≡ xs
found_stays xs p m s h e = put_has package_total xs p (ascending_in_all xs (apart xs s)) (has_found xs p m (apart xs s) h ∙ e)

-- with none of p's triple the room decides
pub none_decides : (xs : List Package) (p : Package) → find (of_triple p) xs ≡ None → insert_answer xs p ≡ cond (nat_lt (length xs) MOST_MEMBERS) (Ok true) (Err Full)
none_decides xs p h =
    let l : Bool = nat_lt (length xs) MOST_MEMBERS in
    (λ i. cond ((has_is_any package_cmp xs p ∙ none_pass p (λ q. is_eq (package_cmp q p)) (equal_inside p) xs h) i) (Ok false) (cond (none_pass p (λ q. clash q p) (clash_inside p) xs h i) (Err (Conflict (triple p))) (cond l (Ok true) (Err Full))))

pub key_is_put : (xs : List Package) (p : Package) → find (of_triple p) xs ≡ None → insert_key triple_cmp xs p ≡ put package_cmp xs p
key_is_put [] p h = refl
key_is_put (x ∷ xs) p h = by_order (triple_cmp p x) refl h (key_is_put xs p)
  where
    by_order : (t : Ordering) → triple_cmp p x ≡ t → cond (is_eq t) (Some x) (find (of_triple p) xs) ≡ None → (find (of_triple p) xs ≡ None → insert_key triple_cmp xs p ≡ put package_cmp xs p) → match_ordering t (p ∷ x ∷ xs) (x ∷ xs) (x ∷ insert_key triple_cmp xs p) ≡ placed package_cmp (package_cmp x p) x p xs (put package_cmp xs p)
    by_order Less e h more = ap (λ r. placed package_cmp r x p xs (put package_cmp xs p)) (sym (package_total.antisymm x p ∙ ap ordering_reverse (less_in_all p x e)))
    by_order Equal e h more = cc
    by_order Greater e h more =
        ap (λ l. x ∷ l) (more h)
        ∙ ap (λ r. placed package_cmp r x p xs (put package_cmp xs p)) (sym (less_in_all x p (triple_total.antisymm x p ∙ ap ordering_reverse e)))

pub if_equal : {P : Type 0} (r : Result Bool ListFault) (b : Bool) (t : List ℕ) → Answers r (cond b (Ok false) (Err (Conflict t))) → (b ≡ true → P) → OnOk r P
if_equal (Ok x) true t a f = f refl
if_equal (Ok x) false t a f = cc
if_equal (Err e) b t a f = tt
