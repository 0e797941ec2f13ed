-- Members of one name and architecture stand side by side.
use Rattle.std.proofs.Common.{◌≡◌, List, [], ◌∷◌, ◌++◌, Bool, true, false, cond, not, ◌&&◌, ◌||◌, append_assoc, refl, sym, ap, ◌∙◌, subst, Ordering, Less, Equal, Greater, inl, inr}
use Rattle.std.specs.Ordering.{is_eq, is_lt, ordering_then, ordering_reverse}
use Rattle.std.specs.List.{filter, list_any}
use Rattle.std.specs.Cmp.{IsTotalOrder}
use Rattle.std.proofs.lemmas.Cmp.{alike_right, tied_itself, nat_list_cmp_total, on_total, then_total}
use Rattle.std.proofs.lemmas.Map.Text.{is_eq-slice_cmp}
use Rattle.deb_version.specs.VersionOrder.{version_cmp}
use Rattle.package_core.specs.declared.package.Package.{Package}
use Rattle.package_core.specs.Order.{text_cmp, triple_cmp, body_cmp, package_cmp}
use Rattle.package_core.proofs.OrderLaws.{package_total}
use Rattle.package_list.specs.Sorted.{IsBelow, IsAscending, first_is}
use Rattle.package_list.specs.Order.{key_cmp}
use Rattle.package_list.specs.Lists.{same_key, has_key, has_greater, greatest}
use Rattle.package_list.proofs.Beside.{agreeing, first_of, first_behind}

module _ {X : Type 0} {K : X → X → Ordering} (S : X → X → Ordering) {R : X → X → Ordering} (k : IsTotalOrder K) (r : IsTotalOrder R) (both : (x y : X) → R x y ≡ ordering_then (K x y) (S x y)) where
  -- a key that is less than that of a member is less than all that follow
  pub key_less : (x y z : X) → K x y ≡ Less → R y z ≡ Less → K x z ≡ Less
  key_less x y z h g = elim (first_of S k r both y z g) [ inl l ↦ k.trans x y z h l | inr e ↦ sym (alike_right k y z x e) ∙ h ]

  turned_key : (x y : X) → K x y ≡ Less → is_eq (K y x) ≡ false
  turned_key x y h = ap is_eq (k.antisymm y x ∙ ap ordering_reverse h)

  pub none_follows : (x y : X) (ys : List X) → K x y ≡ Less → IsBelow R y ys → list_any (λ q. is_eq (K q x)) (y ∷ ys) ≡ false
  none_follows x y ys h b = (λ i. turned_key x y h i || behind ys b i)
    where
      behind : (zs : List X) → IsBelow R y zs → list_any (λ q. is_eq (K q x)) zs ≡ false
      behind [] b = refl
      behind (z ∷ zs) b = (λ i. turned_key x z (key_less x y z h b.0) i || behind zs b.1 i)

  and_true : (b : Bool) → (b && true) ≡ b
  and_true true = refl
  and_true false = refl

  and_false : (b : Bool) → (b && false) ≡ false
  and_false true = refl
  and_false false = refl

  greater_behind : (x : X) (xs : List X) → IsBelow R x xs → list_any (λ q. is_eq (K q x) && is_lt (R x q)) xs ≡ list_any (λ q. is_eq (K q x)) xs
  greater_behind x [] b = refl
  greater_behind x (z ∷ zs) b = (λ i. ((ap (λ o. is_eq (K z x) && is_lt o) b.0) ∙ and_true (is_eq (K z x))) i || greater_behind x zs b.1 i)

  -- a member is exceeded exactly where the next one has its key
  pub greater_first : (x : X) (xs : List X) → IsAscending R (x ∷ xs) → list_any (λ q. is_eq (K q x) && is_lt (R x q)) (x ∷ xs) ≡ first_is (λ q. is_eq (K q x)) xs
  greater_first x xs a =
      (λ i. (ap (λ o. is_eq (K x x) && is_lt o) (tied_itself r x) ∙ and_false (is_eq (K x x))) i || (greater_behind x xs a.0 ∙ first_behind S k r both xs x a.1 a.0) i)

key_rest : Package → Package → Ordering
key_rest a b = ordering_then (ordering_then (version_cmp a.version b.version) (text_cmp a.version b.version)) (body_cmp a b)

pub key_total : IsTotalOrder key_cmp
unfolding key_cmp
key_total = then_total (on_total (λ (p : Package). p.name) nat_list_cmp_total) (on_total (λ (p : Package). p.arch) nat_list_cmp_total)

regroup : (a b c d : Ordering) → ordering_then (ordering_then a (ordering_then b c)) d ≡ ordering_then (ordering_then a b) (ordering_then c d)
regroup Less b c d = refl
regroup Greater b c d = refl
regroup Equal Less c d = refl
regroup Equal Greater c d = refl
regroup Equal Equal c d = refl

key_begins : (a b : Package) → package_cmp a b ≡ ordering_then (key_cmp a b) (key_rest a b)
unfolding package_cmp triple_cmp key_cmp key_rest version_cmp
key_begins a b = regroup (text_cmp a.name b.name) (text_cmp a.arch b.arch) (ordering_then (version_cmp a.version b.version) (text_cmp a.version b.version)) (body_cmp a b)

eq_then : (a b : Ordering) → is_eq (ordering_then a b) ≡ (is_eq a && is_eq b)
eq_then Less b = refl
eq_then Equal b = refl
eq_then Greater b = refl

pub same_key-is : (a b : Package) → same_key a b ≡ is_eq (key_cmp a b)
unfolding same_key key_cmp
same_key-is a b =
    sym (eq_then (text_cmp a.name b.name) (text_cmp a.arch b.arch) ∙ (λ i. is_eq-slice_cmp a.name b.name i && is_eq-slice_cmp a.arch b.arch i))

has_key-is : (xs : List Package) (p : Package) → has_key xs p ≡ list_any (λ q. is_eq (key_cmp q p)) xs
has_key-is xs p = ap (λ f. list_any f xs) (agreeing (λ q. same_key-is q p))

has_greater-is : (xs : List Package) (p : Package) → has_greater xs p ≡ list_any (λ q. is_eq (key_cmp q p) && is_lt (package_cmp p q)) xs
has_greater-is xs p = ap (λ f. list_any f xs) (agreeing (λ q. ap (λ b. b && is_lt (package_cmp p q)) (same_key-is q p)))

-- ---- the members whose key another list hasn't
abbrev pub unkeyed : List Package → List Package → List Package
unkeyed ys xs = filter (λ x. not (has_key ys x)) xs

pub record Kept (kept left right xs ys : List Package) : Type 0 where
  pub same : kept ++ unkeyed right left ≡ unkeyed ys xs
  pub first : IsAscending package_cmp left
  pub second : IsAscending package_cmp right

cond_of : {A : Type 0} (b c : Bool) (x y : A) → b ≡ c → cond b x y ≡ cond c x y
cond_of b c x y e = ap (λ t. cond t x y) e

no_key_less : (x y : Package) (ys : List Package) → key_cmp x y ≡ Less → IsBelow package_cmp y ys → has_key (y ∷ ys) x ≡ false
no_key_less x y ys h b = has_key-is (y ∷ ys) x ∙ none_follows key_rest key_total package_total key_begins x y ys h b

key_equal : (x y : Package) (ys : List Package) → key_cmp x y ≡ Equal → has_key (y ∷ ys) x ≡ true
key_equal x y ys h = ap (λ b. b || has_key ys x) (same_key-is y x ∙ ap is_eq (key_total.antisymm y x ∙ ap ordering_reverse h))

key_skips : (x y : Package) (ys : List Package) → key_cmp y x ≡ Less → has_key (y ∷ ys) x ≡ has_key ys x
key_skips x y ys h = ap (λ b. b || has_key ys x) (same_key-is y x ∙ ap is_eq h)

unkeyed_skips : (y : Package) (ys xs : List Package) → ((x : Package) (zs : List Package) → xs ≡ x ∷ zs → key_cmp y x ≡ Less) → IsAscending package_cmp xs → unkeyed (y ∷ ys) xs ≡ unkeyed ys xs
unkeyed_skips y ys [] h a = refl
unkeyed_skips y ys (x ∷ xs) h a =
    let more : unkeyed (y ∷ ys) xs ≡ unkeyed ys xs = unkeyed_skips y ys xs (λ x' zs e. key_less key_rest key_total package_total key_begins y x x' (h x xs refl) (subst (IsBelow package_cmp x) e a.0).0) a.1 in
    (λ i. cond (not (key_skips x y ys (h x xs refl) i)) (x ∷ more i) (more i))

pub kept_less : (kept left right xs ys : List Package) (x y : Package) (kept' left' right' : List Package) → left ≡ x ∷ left' → right ≡ y ∷ right' → kept' ≡ kept ++ x ∷ [] → key_cmp x y ≡ Less → Kept kept left right xs ys → Kept kept' left' right xs ys
kept_less kept left right xs ys x y kept' left' right' e f g h j =
    let up : IsAscending package_cmp (y ∷ right') = subst (IsAscending package_cmp) f j.second in
    let none : has_key right x ≡ false = ap (λ l. has_key l x) f ∙ no_key_less x y right' h up.0 in
    record {
      same = ap (λ l. l ++ unkeyed right left') g ∙ append_assoc kept (x ∷ []) (unkeyed right left') ∙ ap (λ l. kept ++ l) (sym (ap (unkeyed right) e ∙ cond_of (not (has_key right x)) true (x ∷ unkeyed right left') (unkeyed right left') (ap not none))) ∙ j.same;
      first = (subst (IsAscending package_cmp) e j.first).1;
      second = j.second;
    }

pub kept_equal : (kept left right xs ys : List Package) (x y : Package) (left' right' : List Package) → left ≡ x ∷ left' → right ≡ y ∷ right' → key_cmp x y ≡ Equal → Kept kept left right xs ys → Kept kept left' right xs ys
kept_equal kept left right xs ys x y left' right' e f h j =
    let found : has_key right x ≡ true = ap (λ l. has_key l x) f ∙ key_equal x y right' h in
    record {
      same = ap (λ l. kept ++ l) (sym (ap (unkeyed right) e ∙ cond_of (not (has_key right x)) false (x ∷ unkeyed right left') (unkeyed right left') (ap not found))) ∙ j.same;
      first = (subst (IsAscending package_cmp) e j.first).1;
      second = j.second;
    }

pub kept_greater : (kept left right xs ys : List Package) (x y : Package) (left' right' : List Package) → left ≡ x ∷ left' → right ≡ y ∷ right' → key_cmp x y ≡ Greater → Kept kept left right xs ys → Kept kept left right' xs ys
kept_greater kept left right xs ys x y left' right' e f h j =
    let up : IsAscending package_cmp (x ∷ left') = subst (IsAscending package_cmp) e j.first in
    let less : key_cmp y x ≡ Less = key_total.antisymm y x ∙ ap ordering_reverse h in
    record {
      same = ap (λ l. kept ++ unkeyed right' l) e ∙ ap (λ l. kept ++ l) (sym (unkeyed_skips y right' (x ∷ left') (λ x' zs q. subst (λ (z : Package). key_cmp y z ≡ Less) (first_same x x' left' zs q) less) up)) ∙ ap (λ l. kept ++ unkeyed (y ∷ right') l) (sym e) ∙ ap (λ l. kept ++ unkeyed l left) (sym f) ∙ j.same;
      first = j.first;
      second = (subst (IsAscending package_cmp) f j.second).1;
    }
  where
    first_same : (x x' : Package) (xs zs : List Package) → x ∷ xs ≡ x' ∷ zs → x ≡ x'
    first_same x x' xs zs q = cc

pub kept_none : (xs ys : List Package) → IsAscending package_cmp xs → IsAscending package_cmp ys → Kept [] xs ys xs ys
kept_none xs ys a b = record { same = refl; first = a; second = b }

unkeyed_all : (xs : List Package) → unkeyed [] xs ≡ xs
unkeyed_all [] = refl
unkeyed_all (x ∷ xs) = ap (λ l. x ∷ l) (unkeyed_all xs)

pub kept_rest : (kept left right xs ys : List Package) → right ≡ [] → Kept kept left right xs ys → kept ++ left ≡ unkeyed ys xs
kept_rest kept left right xs ys e j = ap (λ l. kept ++ l) (sym (unkeyed_all left)) ∙ ap (λ l. kept ++ unkeyed l left) (sym e) ∙ j.same

-- ---- the greatest of each key
pub goes_on_is : (x : Package) (xs : List Package) → IsAscending package_cmp (x ∷ xs) → has_greater (x ∷ xs) x ≡ first_is (λ q. is_eq (key_cmp q x)) xs
goes_on_is x xs a = has_greater-is (x ∷ xs) x ∙ greater_first key_rest key_total package_total key_begins x xs a

pub record Greatest (kept left xs : List Package) : Type 0 where
  pub same : kept ++ greatest left ≡ greatest xs
  pub ascending : IsAscending package_cmp left

not_exceeded : (x w : Package) (xs : List Package) → package_cmp x w ≡ Less → has_greater (x ∷ xs) w ≡ has_greater xs w
not_exceeded x w xs h =
    ap (λ b. b || has_greater xs w) (ap (λ o. same_key x w && is_lt o) (package_total.antisymm w x ∙ ap ordering_reverse h) ∙ and_false (same_key x w))
  where
    and_false : (b : Bool) → (b && false) ≡ false
    and_false true = refl
    and_false false = refl

filter_less : (x : Package) (all ws : List Package) → IsBelow package_cmp x ws → filter (λ w. not (has_greater (x ∷ all) w)) ws ≡ filter (λ w. not (has_greater all w)) ws
filter_less x all [] b = refl
filter_less x all (w ∷ ws) b = (λ i. cond (not (not_exceeded x w all b.0 i)) (w ∷ filter_less x all ws b.1 i) (filter_less x all ws b.1 i))

greatest_step : (x : Package) (xs : List Package) (b : Bool) → IsAscending package_cmp (x ∷ xs) → has_greater (x ∷ xs) x ≡ b → greatest (x ∷ xs) ≡ cond (not b) (x ∷ greatest xs) (greatest xs)
greatest_step x xs b a h = (λ i. cond (not (h i)) (x ∷ filter_less x xs xs a.0 i) (filter_less x xs xs a.0 i))

pub greatest_goes_on : (kept left left' xs : List Package) (x : Package) → left ≡ x ∷ left' → has_greater (x ∷ left') x ≡ true → Greatest kept left xs → Greatest kept left' xs
greatest_goes_on kept left left' xs x e h j =
    let up : IsAscending package_cmp (x ∷ left') = subst (IsAscending package_cmp) e j.ascending in
    record { same = ap (λ l. kept ++ l) (sym (ap greatest e ∙ greatest_step x left' true up h)) ∙ j.same; ascending = up.1 }

pub greatest_keeps : (kept kept' left left' xs : List Package) (x : Package) → left ≡ x ∷ left' → has_greater (x ∷ left') x ≡ false → kept' ≡ kept ++ x ∷ [] → Greatest kept left xs → Greatest kept' left' xs
greatest_keeps kept kept' left left' xs x e h g j =
    let up : IsAscending package_cmp (x ∷ left') = subst (IsAscending package_cmp) e j.ascending in
    record {
      same = ap (λ l. l ++ greatest left') g ∙ append_assoc kept (x ∷ []) (greatest left') ∙ ap (λ l. kept ++ l) (sym (ap greatest e ∙ greatest_step x left' false up h)) ∙ j.same;
      ascending = up.1;
    }
