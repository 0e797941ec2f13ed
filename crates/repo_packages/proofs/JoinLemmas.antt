-- Lists that are joined, and repositories with more.
use Rattle.std.proofs.Common.{◌≡◌, ◌≢◌, ℕ, zero, suc, ◌<◌, ◌≤◌, ◌-◌, List, [], ◌∷◌, length, map, get_or, Option, Some, Bool, true, false, ◌||◌, All, IsTrue, subst, refl, sym, ap, ◌∙◌, arith, Ordering, Less, Equal, Greater}
use Rattle.std.specs.Ordering.{is_eq}
use Rattle.std.proofs.lemmas.List.{get_or-map, length-map}
use Rattle.std.specs.Str.{bytes_eq}
use Rattle.std.specs.Bool.{if◌then◌else◌}
use Rattle.std.specs.Cmp.{IsTotalOrder}
use Rattle.package_core.specs.Card.{Card}
use Rattle.package_core.proofs.OrderLaws.{package_total}
use Rattle.package_list.specs.declared.list.TheConstants.{MOST_KNOWN}
use Rattle.package_list.specs.Sorted.{placed, put, union, has, IsAscending}
use Rattle.package_list.specs.Lists as lists
use Rattle.package_list.proofs.SortedLemmas.{put_has}
use Rattle.machine_state.specs.declared.repo.Repo.{Repo}
use Rattle.machine_state.specs.State.{Valid, IsNamedList, repo_of}
use Rattle.machine_state.specs.Values.{StateView}
use Rattle.package_intake.specs.Arrival.{list_in, list_of}
use Rattle.package_intake.specs.Fits.{FitsIn, with_more, added}
use Rattle.reply_text.specs.Replies as replies
use Rattle.machine_state.specs.declared.arrived.Arrived.TheVariants as arrivals
use Rattle.step_model.specs.Case.{changes}
use Rattle.repo_packages.specs.PackageCases.{added_reply, taken_in}

module _ {X : Type 0} {R : X → X → Ordering} (o : IsTotalOrder R) where
  put_longer : (xs : List X) (y : X) → has R xs y ≡ false → length (put R xs y) ≡ suc (length xs)
  put_longer [] y h = refl
  put_longer (x ∷ xs) y h = by_order (R x y) h (put_longer xs y)
    where
      by_order : (r : Ordering) → (is_eq r || has R xs y) ≡ false → (has R xs y ≡ false → length (put R xs y) ≡ suc (length xs)) → length (placed R r x y xs (put R xs y)) ≡ suc (suc (length xs))
      by_order Less g more = ap suc (more g)
      by_order Equal g more = cc
      by_order Greater g more = refl

  put_grows : (xs : List X) (y : X) → length xs ≤ length (put R xs y)
  put_grows [] y = omega arith
  put_grows (x ∷ xs) y = by_order (R x y) (put_grows xs y)
    where
      by_order : (r : Ordering) → length xs ≤ length (put R xs y) → suc (length xs) ≤ length (placed R r x y xs (put R xs y))
      by_order Less more = omega arith
      by_order Equal more = omega arith
      by_order Greater more = omega arith

  union_grows : (xs ys : List X) → length xs ≤ length (union R xs ys)
  union_grows xs [] = omega arith
  union_grows xs (y ∷ ys) = omega (arith, put_grows xs y, union_grows (put R xs y) ys)

  -- a list that adds nothing to another adds no member
  pub all_had : (xs ys : List X) → IsAscending R xs → length (union R xs ys) ≤ length xs → All (λ y. IsTrue (has R xs y)) ys
  all_had xs [] a h = λ k d l. absurd (omega arith)
  all_had xs (y ∷ ys) a h = by_has (has R xs y) refl (all_had xs ys a)
    where
      by_has : (b : Bool) → has R xs y ≡ b → (length (union R xs ys) ≤ length xs → All (λ z. IsTrue (has R xs z)) ys) → All (λ z. IsTrue (has R xs z)) (y ∷ ys)
      by_has false e more = absurd (omega (arith, h, put_longer xs y e, union_grows (put R xs y) ys))
      by_has true e more = each
        where
          same : put R xs y ≡ xs
          same = put_has o xs y a e

          rest : All (λ z. IsTrue (has R xs z)) ys
          rest = more (subst (λ (l : List X). length (union R l ys) ≤ length xs) same h)

          each : All (λ z. IsTrue (has R xs z)) (y ∷ ys)
          each zero d l = e
          each (suc k) d l = rest k d (omega arith)

-- an addition keeps names
name_kept : (name : List ℕ) (list : List Card) (repo : Repo) → (with_more name list repo).name ≡ repo.name
name_kept name list repo = by_name (bytes_eq repo.name name)
  where
    by_name : (b : Bool) → Repo.name (if b then record repo { list = lists.union repo.list list } else repo) ≡ repo.name
    by_name true = refl
    by_name false = refl

-- the repository of that name has more
with_more_named : (name : List ℕ) (list : List Card) (repo : Repo) → bytes_eq repo.name name ≡ true → (with_more name list repo).list ≡ lists.union repo.list list
with_more_named name list repo e = ap (λ (b : Bool). Repo.list (if b then record repo { list = lists.union repo.list list } else repo)) e

-- the repository that is found is of that name
pub found_name : (name : List ℕ) (repos : List Repo) (repo : Repo) → repo_of name repos ≡ Some repo → bytes_eq repo.name name ≡ true
found_name name [] repo e = cc
found_name name (r ∷ rs) repo e = by_name (bytes_eq r.name name) refl e (found_name name rs repo)
  where
    by_name : (b : Bool) → bytes_eq r.name name ≡ b → (if b then Some r else repo_of name rs) ≡ Some repo → (repo_of name rs ≡ Some repo → bytes_eq repo.name name ≡ true) → bytes_eq repo.name name ≡ true
    by_name true f g more = subst (λ (q : Repo). bytes_eq q.name name ≡ true) (some_same g) f
      where
        some_same : Some r ≡ Some repo → r ≡ repo
        some_same h = cc
    by_name false f g more = more g

-- what holds of each repository holds of that one
pub found_holds : (P : Repo → Type 0) (name : List ℕ) (repos : List Repo) (repo : Repo) → All P repos → repo_of name repos ≡ Some repo → P repo
found_holds P name [] repo all e = cc
found_holds P name (r ∷ rs) repo all e = by_name (bytes_eq r.name name) e (found_holds P name rs repo (λ k d l. all (suc k) d (omega arith)))
  where
    by_name : (b : Bool) → (if b then Some r else repo_of name rs) ≡ Some repo → (repo_of name rs ≡ Some repo → P repo) → P repo
    by_name true g more = subst P (some_same g) (all 0 r (omega arith))
      where
        some_same : Some r ≡ Some repo → r ≡ repo
        some_same h = cc
    by_name false g more = more g

pub found_more : (name : List ℕ) (list : List Card) (repos : List Repo) (repo : Repo) → repo_of name repos ≡ Some repo → repo_of name (map (with_more name list) repos) ≡ Some (with_more name list repo)
found_more name list [] repo e = cc
found_more name list (r ∷ rs) repo e = by_name (bytes_eq r.name name) refl e (found_more name list rs repo)
  where
    same : bytes_eq (with_more name list r).name name ≡ bytes_eq r.name name
    same = ap (λ (n : List ℕ). bytes_eq n name) (name_kept name list r)

    by_name : (b : Bool) → bytes_eq r.name name ≡ b → (if b then Some r else repo_of name rs) ≡ Some repo → (repo_of name rs ≡ Some repo → repo_of name (map (with_more name list) rs) ≡ Some (with_more name list repo)) → repo_of name (map (with_more name list) (r ∷ rs)) ≡ Some (with_more name list repo)
    by_name true f g more =
        ap (λ (b : Bool). if b then Some (with_more name list r) else repo_of name (map (with_more name list) rs)) (same ∙ f)
        ∙ ap (λ (q : Repo). Some (with_more name list q)) (some_same g)
      where
        some_same : Some r ≡ Some repo → r ≡ repo
        some_same h = cc
    by_name false f g more =
        ap (λ (b : Bool). if b then Some (with_more name list r) else repo_of name (map (with_more name list) rs)) (same ∙ f)
        ∙ more g

-- the list of that repository, with more
pub list_more : (state : StateView) (name : List ℕ) (list : List Card) (repo : Repo) → repo_of name state.repos ≡ Some repo → (with_more name list repo).list ≡ lists.union repo.list list
list_more state name list repo e = with_more_named name list repo (found_name name state.repos repo e)

-- a list that fits isn't too long with what was there
pub fits_own : (state : StateView) (name : List ℕ) (list : List Card) (repo : Repo) → FitsIn state name list → repo_of name state.repos ≡ Some repo → length (lists.union repo.list list) ≤ MOST_KNOWN
fits_own state name list repo f e =
    let named = found_holds (λ q. IsNamedList (lists.union state.known list) q.list) name (map (with_more name list) state.repos) (with_more name list repo) f.valid.repos.lists (found_more name list state.repos repo e) in
    omega (arith, named.few, ap length (list_more state name list repo e))

pub at_member : {X Y : Type 0} (P : Y → Type 0) (f : X → Y) (xs : List X) (i : ℕ) (x : X) → All P (map f xs) → i < length xs → x ≡ get_or xs i x → P (f x)
at_member P f xs i x all l e =
    let path : get_or (map f xs) i (f x) ≡ f x = get_or-map f xs i x (f x) l ∙ ap f (sym e) in
    subst P path (all i (f x) (omega (arith, l, length-map xs f)))

-- an addition that adds something makes another state
pub added_new : (state : StateView) (name : List ℕ) (list : List Card) (repo : Repo) → repo_of name state.repos ≡ Some repo → length (lists.union repo.list list) - length repo.list ≢ 0 → added state name list ≢ state
added_new state name list repo e more same = more (omega (arith, lengths))
  where
    lengths : length (lists.union repo.list list) ≡ length repo.list
    lengths =
        ap length (sym (list_more state name list repo e))
        ∙ ap (λ (o : Option Repo). length (list_in o)) (sym (found_more name list state.repos repo e))
        ∙ ap (λ (s : StateView). length (list_in (repo_of name s.repos))) same
        ∙ ap (λ (o : Option Repo). length (list_in o)) e

-- a list that adds nothing has no new member
pub nothing_new : (state : StateView) (name : List ℕ) (list : List Card) (repo : Repo) → Valid state → repo_of name state.repos ≡ Some repo → length (lists.union repo.list list) - length repo.list ≡ 0 → All (λ p. IsTrue (lists.has_member (list_of state name) p)) list
nothing_new state name list repo v e none =
    subst (λ (own : List Card). All (λ p. IsTrue (lists.has_member own p)) list) (ap list_in (sym e))
    (all_had package_total repo.list list (found_holds (λ q. IsNamedList state.known q.list) name state.repos repo v.repos.lists e).sorted (omega (arith, none)))

-- what an addition comes to, in terms of the repository's list
pub taken_reply : (state : StateView) (name reply : List ℕ) (list : List Card) (repo : Repo) (k n : ℕ) → repo_of name state.repos ≡ Some repo
    → reply ≡ replies.repo_added name k n → k ≡ length (lists.union repo.list list) - length repo.list → n ≡ length (lists.union repo.list list)
    → reply ≡ added_reply name (list_of state name) (lists.union (list_of state name) list)
taken_reply state name reply list repo k n e r ke ne =
    r ∙ ap (λ (j : ℕ). replies.repo_added name j n) ke ∙ ap (λ (j : ℕ). replies.repo_added name (length (lists.union repo.list list) - length repo.list) j) ne
    ∙ ap (λ (own : List Card). added_reply name own (lists.union own list)) (ap list_in (sym e))

-- an addition that adds nothing
pub taken_none : (state : StateView) (name reply : List ℕ) (list : List Card) (date : List ℕ) → reply ≡ added_reply name (list_of state name) (lists.union (list_of state name) list) → added state name list ≡ state
    → taken_in state name (arrivals.List list date) ≡ changes reply state
taken_none state name reply list date e same = ap (changes (added_reply name (list_of state name) (lists.union (list_of state name) list))) same ∙ ap (λ (r : List ℕ). changes r state) (sym e)

-- and another
pub taken_some : (state new : StateView) (name reply : List ℕ) (list : List Card) (date : List ℕ) → reply ≡ added_reply name (list_of state name) (lists.union (list_of state name) list) → new ≡ added state name list
    → taken_in state name (arrivals.List list date) ≡ changes reply new
taken_some state new name reply list date e same = ap (changes (added_reply name (list_of state name) (lists.union (list_of state name) list))) (sym same) ∙ ap (λ (r : List ℕ). changes r new) (sym e)
