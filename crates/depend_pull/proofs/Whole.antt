-- What is taken leaves nothing to be taken, and a place that was passed stays so.
use Rattle.std.proofs.Common.{◌≡◌, ◌⊎◌, ◌<◌, ◌≤◌, inl, inr, ℕ, zero, suc, List, [], ◌∷◌, ◌++◌, length, Bool, true, false, ◌||◌, ◌&&◌, not, cond, Option, Some, None, refl, ap, sym, ◌∙◌, subst, Ordering, Less, Equal, Greater, arith}
use Rattle.std.specs.List.{list_any, filter, find}
use Rattle.std.specs.Option.{option_and_then}
use Rattle.std.specs.Ordering.{is_eq, is_lt}
use Rattle.std.proofs.lemmas.Cmp.{tied_itself}
use Rattle.depends_field.specs.declared.alternative.Alternative.{Alternative}
use Rattle.package_core.specs.Card.{Card}
use Rattle.package_core.specs.Order.{package_cmp}
use Rattle.package_core.proofs.OrderLaws.{package_total}
use Rattle.package_list.specs.Lists.{has_member, without, greatest, has_greater}
use Rattle.package_list.specs.Sorted.{IsAscending, union}
use Rattle.package_relations.specs.Order.{by_version_cmp}
use Rattle.package_relations.specs.Satisfies.{satisfies, satisfies_group, is_satisfied}
use Rattle.query_eval.specs.Several.{some_true}
use Rattle.query_tree.specs.Tree.{Tree}
use Rattle.depend_pull.specs.declared.flags.PullFlags.{PullFlags}
use Rattle.depend_pull.specs.declared.places.Place.{Place}
use Rattle.depend_pull.specs.Places.{first_satisfied, greater_of, greatest_behind, greatest_from, greatest_of, is_open, next, open_place, picked, places, satisfiers}
use Rattle.depend_pull.specs.Pull.{go_on, grown, taken_in_turn}
use Rattle.depend_pull.specs.Seeds.{asked_for, is_for_some, of_each, seed_cmp, seeds}
use Rattle.depend_pull.proofs.Members.{Member, Within, any_behind, any_found, any_member, at_most_all, behind_member, found_member, kept_member, one_fewer, the_same, union_member}

-- ---- the greatest is a member

from_member : (p : Card) (ps : List Card) → Member (greatest_from p ps) (p ∷ ps)
from_member p [] = inl refl
from_member p (q ∷ qs) = by_test (is_lt (by_version_cmp p q)) refl (from_member (greater_of p q) qs)
  where
    by_test : (b : Bool) → is_lt (by_version_cmp p q) ≡ b → Member (greatest_from (greater_of p q) qs) (greater_of p q ∷ qs) → Member (greatest_from (greater_of p q) qs) (p ∷ q ∷ qs)
    by_test true e (inl h) = inr (inl (h ∙ ap (λ b. cond b q p) e))
    by_test false e (inl h) = inl (h ∙ ap (λ b. cond b q p) e)
    by_test b e (inr m) = inr (inr m)

greatest_member : (xs : List Card) (p : Card) → greatest_of xs ≡ Some p → Member p xs
greatest_member [] p h = cc
greatest_member (x ∷ xs) p h = subst (λ q. Member q (x ∷ xs)) (the_one (greatest_from x xs) p h) (from_member x xs)
  where
    the_one : (a b : Card) → Some a ≡ Some b → a ≡ b
    the_one a b e = cc

-- ---- what is taken next

-- it satisfies the place that is open
record Comes (base source taken : List Card) (p : Card) : Type 0 where
  place : Place
  is_opened : is_open base source taken place ≡ true
  there : Member p source
  meets : satisfies_group p place.group place.arch ≡ true

picked_of : (base source taken : List Card) (p : Card) (place : Place) → is_open base source taken place ≡ true → picked source place ≡ Some p → Comes base source taken p
picked_of base source taken p place o h = by_first (first_satisfied source place.arch place.group) refl h
  where
    by_first : (first : Option Alternative) → first_satisfied source place.arch place.group ≡ first → option_and_then (λ alternative. greatest_of (satisfiers source place.arch alternative)) first ≡ Some p → Comes base source taken p
    by_first None e h = cc
    by_first (Some a) e h =
        let member : Member p (satisfiers source place.arch a) = greatest_member (satisfiers source place.arch a) p h in
        let kept = kept_member (λ q. satisfies q a place.arch) source p member in
        let one = found_member (λ alternative. list_any (λ q. satisfies q alternative place.arch) source) place.group a e in
        record { place = place; is_opened = o; there = kept.0; meets = any_member (λ alternative. satisfies p alternative place.arch) place.group a one.0 kept.1 }

next_comes : (flags : PullFlags) (archs : List (List ℕ)) (base source taken : List Card) (p : Card) → next flags archs base source taken ≡ Some p → Comes base source taken p
next_comes flags archs base source taken p h = by_place (open_place flags archs base source taken) refl h
  where
    by_place : (place : Option Place) → open_place flags archs base source taken ≡ place → option_and_then (picked source) place ≡ Some p → Comes base source taken p
    by_place None e h = cc
    by_place (Some place) e h = picked_of base source taken p place (found_member (is_open base source taken) (places flags archs taken) place e).1 h

-- nothing that was taken satisfies a place that is open
unsatisfied : (b t s : Bool) → (not (b || t) && s) ≡ true → t ≡ false
unsatisfied true t s h = cc
unsatisfied false true s h = cc
unsatisfied false false s h = refl

no_other : (b : Bool) → (b ≡ true → ⊥) → b ≡ false
no_other true f = absurd (f refl)
no_other false f = refl

differ : true ≡ false → ⊥
differ e = cc

equal_from : (o : Ordering) → is_eq o ≡ true → o ≡ Equal
equal_from Less h = cc
equal_from Equal h = refl
equal_from Greater h = cc

-- it wasn't taken
fresh : (base source taken : List Card) (p : Card) → IsAscending package_cmp source → Within taken source → Comes base source taken p → has_member taken p ≡ false
fresh base source taken p up within c = no_other (has_member taken p) clash
  where
    clash : has_member taken p ≡ true → ⊥
    clash h =
        let q = any_found (λ q. is_eq (package_cmp q p)) taken h in
        let same : q.0 ≡ p = the_same package_total source q.0 p up (within q.0 q.1.0) c.there (equal_from (package_cmp q.0 p) q.1.1) in
        let member : Member p taken = subst (λ x. Member x taken) same q.1.0 in
        differ (sym (any_member (λ x. satisfies_group x c.place.group c.place.arch) taken p member c.meets) ∙ unsatisfied (is_satisfied base c.place.group c.place.arch) (is_satisfied taken c.place.group c.place.arch) (is_satisfied source c.place.group c.place.arch) c.is_opened)

-- ---- rounds

-- once it is taken, fewer members are left
fewer_left : (source taken : List Card) (p : Card) → Member p source → has_member taken p ≡ false → length (without source (taken ++ p ∷ [])) < length (without source taken)
fewer_left source taken p m h =
    one_fewer (λ x. not (has_member taken x)) (λ x. not (has_member (taken ++ p ∷ []) x)) source p less m (ap not h) gone
  where
    either : (x : Card) → has_member (taken ++ p ∷ []) x ≡ (has_member taken x || is_eq (package_cmp p x))
    either x = any_behind (λ q. is_eq (package_cmp q x)) taken p

    stays : (a b : Bool) → not a ≡ false → not (a || b) ≡ false
    stays true b e = refl
    stays false b e = cc

    ends : (a b : Bool) → b ≡ true → not (a || b) ≡ false
    ends true b e = refl
    ends false b e = ap not e

    less : (x : Card) → not (has_member taken x) ≡ false → not (has_member (taken ++ p ∷ []) x) ≡ false
    less x e = ap not (either x) ∙ stays (has_member taken x) (is_eq (package_cmp p x)) e

    gone : not (has_member (taken ++ p ∷ []) p) ≡ false
    gone = ap not (either p) ∙ ends (has_member taken p) (is_eq (package_cmp p p)) (ap is_eq (tied_itself package_total p))

more_within : (source taken : List Card) (p : Card) → Within taken source → Member p source → Within (taken ++ p ∷ []) source
more_within source taken p within m x n = by_case (behind_member taken p x n)
  where
    by_case : Member x taken ⊎ (x ≡ p) → Member x source
    by_case (inl k) = within x k
    by_case (inr e) = subst (λ z. Member z source) (sym e) m

module _ (flags : PullFlags) (archs : List (List ℕ)) (base source : List Card) (up : IsAscending package_cmp source) where
  fewer_next : (taken : List Card) (p : Card) → Within taken source → next flags archs base source taken ≡ Some p → length (without source (taken ++ p ∷ [])) < length (without source taken)
  fewer_next taken p within h =
      let c = next_comes flags archs base source taken p h in
      fewer_left source taken p c.there (fresh base source taken p up within c)

  pub whole : (n : ℕ) (taken : List Card) → Within taken source → length (without source taken) ≤ n → next flags archs base source (grown flags archs base source n taken) ≡ None
  whole zero taken within le = by_next (next flags archs base source taken) refl
    where
      by_next : (o : Option Card) → next flags archs base source taken ≡ o → next flags archs base source taken ≡ None
      by_next None h = h
      by_next (Some p) h = absurd (omega (fewer_next taken p within h, le, arith))
  whole (suc n) taken within le = by_next (next flags archs base source taken) refl (whole n)
    where
      by_next : (o : Option Card) → next flags archs base source taken ≡ o → ((t : List Card) → Within t source → length (without source t) ≤ n → next flags archs base source (grown flags archs base source n t) ≡ None) → next flags archs base source (go_on o taken (grown flags archs base source n)) ≡ None
      by_next None h more = h
      by_next (Some p) h more =
          let c = next_comes flags archs base source taken p h in
          more (taken ++ p ∷ []) (more_within source taken p within c.there) (omega (fewer_next taken p within h, le, arith))

-- ---- seeds are members

each_within : (all : Bool) (xs : List Card) → Within (of_each all xs) xs
each_within true xs p m = m
each_within false xs p m = (kept_member (λ x. not (has_greater xs x)) xs p m).0

seeds_within : (all : Bool) (queries : List Tree) (archs : List (List ℕ)) (source : List Card) → Within (seeds all queries archs source) source
seeds_within all queries archs source p m = by_case (union_member seed_cmp [] (of_each all (asked_for queries archs source)) p m)
  where
    by_case : Member p [] ⊎ Member p (of_each all (asked_for queries archs source)) → Member p source
    by_case (inl k) = absurd k
    by_case (inr k) = (kept_member (λ x. some_true queries x && is_for_some archs x) source p (each_within all (asked_for queries archs source) p k)).0

pub nothing_left : (flags : PullFlags) (archs : List (List ℕ)) (base source : List Card) (queries : List Tree) → flags.deps ≡ true → IsAscending package_cmp source → next flags archs base source (taken_in_turn flags archs base source queries) ≡ None
unfolding taken_in_turn
nothing_left flags archs base source queries d up =
    let begun = seeds flags.all_matches queries archs source in
    rw d (whole flags archs base source up (length source) begun (seeds_within flags.all_matches queries archs source) (at_most_all (λ x. not (has_member begun x)) source))

-- ---- places that were passed

pub stays_passed : (base source taken : List Card) (p : Card) (place : Place) → is_open base source taken place ≡ false → is_open base source (taken ++ p ∷ []) place ≡ false
stays_passed base source taken p place h =
    ap (λ t. not (is_satisfied base place.group place.arch || t) && is_satisfied source place.group place.arch) (any_behind (λ x. satisfies_group x place.group place.arch) taken p)
    ∙ by_test (is_satisfied base place.group place.arch) (is_satisfied taken place.group place.arch) (satisfies_group p place.group place.arch) (is_satisfied source place.group place.arch) h
  where
    by_test : (b t q s : Bool) → (not (b || t) && s) ≡ false → (not (b || (t || q)) && s) ≡ false
    by_test true t q s h = refl
    by_test false true q s h = refl
    by_test false false true s h = refl
    by_test false false false s h = h
