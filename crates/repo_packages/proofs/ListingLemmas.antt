-- Repositories whose lists change.
use Rattle.std.proofs.Common.{◌≡◌, ◌≢◌, ℕ, zero, suc, ◌<◌, Bool, true, false, not, cond, ◌||◌, List, [], ◌∷◌, length, get_or, set, Some, None, refl, sym, ap, ◌∙◌, subst, arith, Ordering, Less, Equal, true≢false}
use Rattle.std.specs.Ordering.{is_eq, nat_cmp}
use Rattle.std.specs.List.{All, filter}
use Rattle.std.specs.Str.{bytes_eq}
use Rattle.std.specs.Cmp.Lexicographic.{slice_cmp}
use Rattle.std.proofs.lemmas.Cmp.{alike_right, nat_list_cmp_total, tied_itself}
use Rattle.std.proofs.lemmas.List.Elements.{All-filter, filter_passes}
use Rattle.std.proofs.lemmas.Map.Text.{is_eq-slice_cmp}
use Rattle.package_core.specs.Card.{Card}
use Rattle.package_core.proofs.OrderLaws.{package_total}
use Rattle.package_list.specs.Lists.{has_member, without}
use Rattle.machine_state.specs.declared.repo.Repo.{Repo}
use Rattle.machine_state.specs.Ascending.{IsAscending, IsBelow}
use Rattle.machine_state.specs.Named.{name_cmp}
use Rattle.machine_state.specs.State.{repo_cmp, repo_name, repo_of}
use Rattle.machine_state.specs.Values.{StateView}
use Rattle.machine_state.proofs.AscendingLemmas.{ascending_at}
use Rattle.machine_state.proofs.RepoLemmas.{repo_total}
use Rattle.machine_state.proofs.StayLemmas.{sorted_changed}
use Rattle.package_intake.specs.Arrival.{list_in, list_of}
use Rattle.repo_packages.specs.PackageCases.{changed_in, listed, with_list}
use Rattle.package_intake.proofs.FitLemmas.{later_differs}

some_same : {X : Type 0} (x y : X) → Some x ≡ Some y → x ≡ y
some_same x y h = cc

-- ---- the repository of a name is changed, and no other
module _ (name : List ℕ) (change : Repo → Repo) where
  abbrev one : Repo → Repo
  one repo = cond (bytes_eq repo.name name) (change repo) repo

  one_same : (r : Repo) → bytes_eq r.name name ≡ false → one r ≡ r
  one_same r e = ap (λ (b : Bool). cond b (change r) r) e

  one_changed : (r : Repo) → bytes_eq r.name name ≡ true → one r ≡ change r
  one_changed r e = ap (λ (b : Bool). cond b (change r) r) e

  -- behind the repository of that name the others are as they were
  rest_same : (r : Repo) (rs : List Repo) → bytes_eq r.name name ≡ true → IsBelow repo_cmp r rs → changed_in name change rs ≡ rs
  rest_same r [] e b = refl
  rest_same r (s ∷ rs) e b = (λ i. one_same s (later_differs name r s e b.0) i ∷ rest_same r rs e b.1 i)

  -- where no repository has the name
  pub changed_none : (repos : List Repo) → repo_of name repos ≡ None → changed_in name change repos ≡ repos
  changed_none [] e = refl
  changed_none (r ∷ rs) e = by_name (bytes_eq r.name name) refl e (changed_none rs)
    where
      never : {Y : Type 0} → Some r ≡ None → Y
      never h = cc

      by_name : (b : Bool) → bytes_eq r.name name ≡ b → cond b (Some r) (repo_of name rs) ≡ None → (repo_of name rs ≡ None → changed_in name change rs ≡ rs) → changed_in name change (r ∷ rs) ≡ r ∷ rs
      by_name true f g more = never g
      by_name false f g more = (λ i. one_same r f i ∷ more g i)

  -- and where one stands at this place
  pub changed_at : (repos : List Repo) (place : ℕ) (d : Repo) → IsAscending repo_cmp repos → place < length repos → name_cmp repo_name (get_or repos place d) name ≡ Equal
      → changed_in name change repos ≡ set repos place (change (get_or repos place d))
  changed_at [] place d a l e = absurd (omega (arith, l))
  changed_at (r ∷ rs) zero d a l e =
      let is : bytes_eq r.name name ≡ true = sym (is_eq-slice_cmp r.name name) ∙ ap is_eq e in
      (λ i. one_changed r is i ∷ rest_same r rs is a.0 i)
  changed_at (r ∷ rs) (suc place) d a l e =
      let less : repo_cmp r (get_or rs place d) ≡ Less = ascending_at repo_total (r ∷ rs) 0 (suc place) d a (omega arith) l in
      let other : slice_cmp nat_cmp r.name name ≡ Less = sym (alike_right nat_list_cmp_total (get_or rs place d).name name r.name e) ∙ less in
      let apart : bytes_eq r.name name ≡ false = sym (is_eq-slice_cmp r.name name) ∙ ap is_eq other in
      (λ i. one_same r apart i ∷ changed_at rs place d a.1 (omega (arith, l)) e i)

-- the repository that is found is the changed one
pub found_changed : (name : List ℕ) (change : Repo → Repo) → ((repo : Repo) → (change repo).name ≡ repo.name) → (repos : List Repo) (repo : Repo) → repo_of name repos ≡ Some repo → repo_of name (changed_in name change repos) ≡ Some (change repo)
found_changed name change named [] repo e = cc
found_changed name change named (r ∷ rs) repo e = by_name (bytes_eq r.name name) refl e (found_changed name change named rs repo)
  where
    by_name : (b : Bool) → bytes_eq r.name name ≡ b → cond b (Some r) (repo_of name rs) ≡ Some repo → (repo_of name rs ≡ Some repo → repo_of name (changed_in name change rs) ≡ Some (change repo)) → cond (bytes_eq (cond b (change r) r).name name) (Some (cond b (change r) r)) (repo_of name (changed_in name change rs)) ≡ Some (change repo)
    by_name true f g more =
        ap (λ (b : Bool). cond b (Some (change r)) (repo_of name (changed_in name change rs))) (ap (λ (n : List ℕ). bytes_eq n name) (named r) ∙ f)
        ∙ ap (λ (q : Repo). Some (change q)) (some_same r repo g)
    by_name false f g more = ap (λ (b : Bool). cond b (Some r) (repo_of name (changed_in name change rs))) f ∙ more g

-- a repository that gets the list that it has is as it was
same_list : (r repo : Repo) → r ≡ repo → with_list repo.list r ≡ r
same_list r repo e = ap (λ (q : Repo). with_list q.list r) (sym e)

pub changed_same : (name : List ℕ) (repos : List Repo) (repo : Repo) → IsAscending repo_cmp repos → repo_of name repos ≡ Some repo → changed_in name (with_list repo.list) repos ≡ repos
changed_same name [] repo a e = refl
changed_same name (r ∷ rs) repo a e = by_name (bytes_eq r.name name) refl e (changed_same name rs repo a.1)
  where
    by_name : (b : Bool) → bytes_eq r.name name ≡ b → cond b (Some r) (repo_of name rs) ≡ Some repo → (repo_of name rs ≡ Some repo → changed_in name (with_list repo.list) rs ≡ rs) → changed_in name (with_list repo.list) (r ∷ rs) ≡ r ∷ rs
    by_name true f g more = (λ i. (one_changed name (with_list repo.list) r f ∙ same_list r repo (some_same r repo g)) i ∷ rest_same name (with_list repo.list) r rs f a.0 i)
    by_name false f g more = (λ i. one_same name (with_list repo.list) r f i ∷ more g i)

-- ---- states

pub listed_list : (state : StateView) (name : List ℕ) (list : List Card) (repo : Repo) → repo_of name state.repos ≡ Some repo → list_of (listed state name list) name ≡ list
listed_list state name list repo e = ap list_in (found_changed name (with_list list) (λ r. refl) state.repos repo e)

pub listed_same : (state : StateView) (name : List ℕ) (list : List Card) (repo : Repo) → IsAscending repo_cmp state.repos → repo_of name state.repos ≡ Some repo → list ≡ repo.list → listed state name list ≡ state
listed_same state name list repo a e is =
    ap (λ (l : List Card). listed state name l) is ∙ ap (λ (rs : List Repo). record state { repos = rs }) (changed_same name state.repos repo a e)

pub listed_sorted : (state : StateView) (name : List ℕ) (list : List Card) → IsAscending repo_cmp state.repos → IsAscending repo_cmp (listed state name list).repos
listed_sorted state name list = sorted_changed (one name (with_list list)) (λ repo. named repo (bytes_eq repo.name name)) state.repos
  where
    named : (repo : Repo) (b : Bool) → (cond b (with_list list repo) repo).name ≡ repo.name
    named repo true = refl
    named repo false = refl

-- a state whose repository has another list is another one
pub listed_new : (state : StateView) (name : List ℕ) (list : List Card) (repo : Repo) → repo_of name state.repos ≡ Some repo → list ≢ repo.list → listed state name list ≢ state
listed_new state name list repo e differs same = differs (sym (listed_list state name list repo e) ∙ ap (λ (s : StateView). list_of s name) same ∙ ap list_in e)

-- ---- lists without some members

pub without_none : (xs gone : List Card) → gone ≡ [] → without xs gone ≡ xs
without_none xs gone e = ap (without xs) e ∙ nothing xs
  where
    nothing : (ys : List Card) → without ys [] ≡ ys
    nothing [] = refl
    nothing (y ∷ ys) = ap (λ (l : List Card). y ∷ l) (nothing ys)

-- a filter that leaves all passes all
full_passes : (test : Card → Bool) (xs : List Card) → filter test xs ≡ xs → All (λ x. test x ≡ true) xs
full_passes test xs e = subst (λ (l : List Card). All (λ x. test x ≡ true) l) e (filter_passes test xs)

-- without some of its members a list is another one
pub without_some : (xs gone : List Card) (test : Card → Bool) → gone ≡ filter test xs → gone ≢ [] → without xs gone ≢ xs
without_some xs gone test is some same = by_gone gone refl
  where
    left : All (λ x. not (has_member gone x) ≡ true) gone
    left = subst (λ (l : List Card). All (λ x. not (has_member gone x) ≡ true) l) (sym is) (All-filter test (λ x. not (has_member gone x) ≡ true) xs (full_passes (λ x. not (has_member gone x)) xs same))

    itself : (p : Card) (ps : List Card) → not (has_member (p ∷ ps) p) ≡ false
    itself p ps = ap (λ (r : Ordering). not (is_eq r || has_member ps p)) (tied_itself package_total p)

    by_gone : (l : List Card) → gone ≡ l → ⊥
    by_gone [] e = some e
    by_gone (p ∷ ps) e =
        let none : not (has_member (p ∷ ps) p) ≡ true = subst (λ (l : List Card). All (λ x. not (has_member l x) ≡ true) l) e left 0 p (omega arith) in
        true≢false (sym none ∙ itself p ps)
