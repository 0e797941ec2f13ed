-- What the filter chooses is some of what it chooses from.
use Rattle.std.proofs.Common.{◌≡◌, Bool, true, false, cond, slice_get, List, [], ◌∷◌, ℕ, Option, Some, None, refl, sym, ap, subst, ◌∙◌}
use Rattle.std.specs.List.{AllByRecursion, filter}
use Rattle.package_core.specs.Card.{Card}
use Rattle.package_core.specs.Order.{package_cmp}
use Rattle.package_core.proofs.OrderLaws.{package_total}
use Rattle.query_tree.specs.Tree.{Tree}
use Rattle.query_eval.specs.Truth.{matches}
use Rattle.package_list.specs.Sorted.{IsAscending}
use Rattle.package_list.specs.Lists.{has_member}
use Rattle.package_list.proofs.Unions.{filter_ascending}
use Rattle.depend_pull.specs.Pull.{taken_in_turn, with_what_it_needs}
use Rattle.depend_pull.specs.Pull as pull
use Rattle.machine_state.specs.Lists.{IsKnown, IsNamedList}
use Rattle.machine_state.proofs.ListLemmas.{named_kept}
use Rattle.package_intake.proofs.ListLemmas.{by_places, each_itself}
use Rattle.mirror_update.specs.Filter.{chosen_by, following, queries_of}
use Rattle.mirror_update.proofs.ListLemmas.{IsApart}

all_pass : (list : List Card) → list ≡ filter (λ p. true) list
all_pass [] = refl
all_pass (p ∷ ps) = ap (λ (l : List Card). p ∷ l) (all_pass ps)

pub chosen_is : (tree : Option Tree) (deps : Bool) (archs : List (List ℕ)) (list : List Card) → (test : Card → Bool) × (chosen_by tree deps archs list ≡ filter test list)
unfolding chosen_by
chosen_is None deps archs list = ((λ p. true), all_pass list)
chosen_is (Some t) false archs list = (matches t, refl)
chosen_is (Some t) true archs list = (has_member (taken_in_turn (pull.following following) archs [] list (t ∷ [])), refl)

each_kept : (P : Card → Type 0) (test : Card → Bool) (xs : List Card) → AllByRecursion P xs → AllByRecursion P (filter test xs)
each_kept P test [] h = tt
each_kept P test (x ∷ xs) h = by_test (test x) (each_kept P test xs h.1)
  where
    by_test : (b : Bool) → AllByRecursion P (filter test xs) → AllByRecursion P (cond b (x ∷ filter test xs) (filter test xs))
    by_test true more = (h.0, more)
    by_test false more = more

-- what holds of each holds of each that is chosen
pub chosen_hold : (P : Card → Type 0) (tree : Option Tree) (deps : Bool) (archs : List (List ℕ)) (list : List Card) → AllByRecursion P list → AllByRecursion P (chosen_by tree deps archs list)
chosen_hold P tree deps archs list h =
    let c = chosen_is tree deps archs list in subst (AllByRecursion P) (sym c.1) (each_kept P c.0 list h)

pub chosen_ascending : (tree : Option Tree) (deps : Bool) (archs : List (List ℕ)) (list : List Card) → IsAscending package_cmp list → IsAscending package_cmp (chosen_by tree deps archs list)
chosen_ascending tree deps archs list up =
    let c = chosen_is tree deps archs list in subst (IsAscending package_cmp) (sym c.1) (filter_ascending package_total c.0 list up)

-- of a list without clashes it is one by name
pub chosen_named : (tree : Option Tree) (deps : Bool) (archs : List (List ℕ)) (list : List Card) → IsAscending package_cmp list → IsApart list → IsNamedList list (chosen_by tree deps archs list)
chosen_named tree deps archs list up a =
    let c = chosen_is tree deps archs list in
    let whole : IsNamedList list list = record { sorted = up; apart = a.apart; listed = by_places (IsKnown list) list (each_itself package_total list up); few = a.few } in
    subst (IsNamedList list) (sym c.1) (named_kept list list c.0 whole)

-- ---- the first query, or none
pub none_chosen : (queries : List Tree) (tree : Option Tree) (deps : Bool) (archs : List (List ℕ)) (list : List Card) → queries ≡ queries_of tree → slice_get queries 0 ≡ None → list ≡ chosen_by tree deps archs list
unfolding chosen_by
none_chosen queries None deps archs list e h = refl
none_chosen queries (Some t) deps archs list e h = absurd (let no : Some t ≡ None = ap (λ (qs : List Tree). slice_get qs 0) (sym e) ∙ h in cc)

pub needs_chosen : (queries : List Tree) (query : Tree) (tree : Option Tree) (archs : List (List ℕ)) (list : List Card) → queries ≡ queries_of tree → slice_get queries 0 ≡ Some query → with_what_it_needs following archs list queries ≡ chosen_by tree true archs list
unfolding chosen_by
needs_chosen queries query None archs list e h = absurd (let no : None ≡ Some query = ap (λ (qs : List Tree). slice_get qs 0) (sym e) ∙ h in cc)
needs_chosen queries query (Some t) archs list e h = ap (with_what_it_needs following archs list) e

pub matching_chosen : (queries : List Tree) (query : Tree) (tree : Option Tree) (archs : List (List ℕ)) (list : List Card) → queries ≡ queries_of tree → slice_get queries 0 ≡ Some query → filter (matches query) list ≡ chosen_by tree false archs list
unfolding chosen_by
matching_chosen queries query None archs list e h = absurd (let no : None ≡ Some query = ap (λ (qs : List Tree). slice_get qs 0) (sym e) ∙ h in cc)
matching_chosen queries query (Some t) archs list e h =
    let both : Some t ≡ Some query = ap (λ (qs : List Tree). slice_get qs 0) (sym e) ∙ h in
    let same : t ≡ query = cc in
    ap (λ (q : Tree). filter (matches q) list) (sym same)
