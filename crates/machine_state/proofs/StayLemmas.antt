-- What is found goes on being found: where elements change so that the test doesn't notice, and where there is one more.
use Rattle.std.proofs.Common.{◌≡◌, ℕ, Bool, true, false, cond, List, [], ◌∷◌, map, find, Option, Some, is_some, IsTrue, refl, sym, ap, ◌∙◌, subst, Ordering, Less, Equal, Greater}
use Rattle.std.proofs.lemmas.Bool.{false≢true}
use Rattle.std.specs.Ordering.{nat_cmp}
use Rattle.std.specs.Cmp.Lexicographic.{slice_cmp}
use Rattle.std.specs.Str.{bytes_eq}
use Rattle.machine_state.specs.declared.repo.Repo.{Repo}
use Rattle.machine_state.specs.Ascending.{IsBelow, IsAscending, placed, put}
use Rattle.machine_state.specs.State.{repo_cmp, repo_of}

found_in_map : {X : Type 0} (test : X → Bool) (change : X → X) → ((x : X) → test (change x) ≡ test x) → (xs : List X) → IsTrue (is_some (find test xs)) → IsTrue (is_some (find test (map change xs)))
found_in_map test change same [] h = h
found_in_map test change same (x ∷ xs) h = by_test (test x) (same x) h (found_in_map test change same xs)
  where
    by_test : (b : Bool) → test (change x) ≡ b → IsTrue (is_some (cond b (Some x) (find test xs))) → (IsTrue (is_some (find test xs)) → IsTrue (is_some (find test (map change xs)))) → IsTrue (is_some (cond (test (change x)) (Some (change x)) (find test (map change xs))))
    by_test true e g more = subst (λ (c : Bool). IsTrue (is_some (cond c (Some (change x)) (find test (map change xs))))) (sym e) refl
    by_test false e g more = subst (λ (c : Bool). IsTrue (is_some (cond c (Some (change x)) (find test (map change xs))))) (sym e) (more g)

pub found_in_put : {X : Type 0} (R : X → X → Ordering) (test : X → Bool) (x : X) (xs : List X) → IsTrue (is_some (find test xs)) → IsTrue (is_some (find test (put R x xs)))
found_in_put R test x [] h = absurd (false≢true h)
found_in_put R test x (y ∷ ys) h = by_order (R x y) (found_in_put R test x ys)
  where
    ahead : (b : Bool) → IsTrue (is_some (cond b (Some x) (find test (y ∷ ys))))
    ahead true = refl
    ahead false = h

    behind : (b : Bool) → IsTrue (is_some (cond b (Some y) (find test ys))) → (IsTrue (is_some (find test ys)) → IsTrue (is_some (find test (put R x ys)))) → IsTrue (is_some (cond b (Some y) (find test (put R x ys))))
    behind true g more = refl
    behind false g more = more g

    by_order : (o : Ordering) → (IsTrue (is_some (find test ys)) → IsTrue (is_some (find test (put R x ys)))) → IsTrue (is_some (find test (placed R o x y ys (put R x ys))))
    by_order Less more = ahead (test x)
    by_order Equal more = h
    by_order Greater more = behind (test y) h more

-- ---- a change of repositories that keeps their names
module _ (change : Repo → Repo) (named : (repo : Repo) → (change repo).name ≡ repo.name) where
  same_order : (r s : Repo) → repo_cmp (change r) (change s) ≡ repo_cmp r s
  same_order r s = (λ i. slice_cmp nat_cmp (named r i) (named s i))

  below_changed : (r : Repo) (rs : List Repo) → IsBelow repo_cmp r rs → IsBelow repo_cmp (change r) (map change rs)
  below_changed r [] b = tt
  below_changed r (s ∷ rs) b = (same_order r s ∙ b.0, below_changed r rs b.1)

  pub sorted_changed : (rs : List Repo) → IsAscending repo_cmp rs → IsAscending repo_cmp (map change rs)
  sorted_changed [] a = tt
  sorted_changed (r ∷ rs) a = (below_changed r rs a.0, sorted_changed rs a.1)

  pub stays_changed : (rs : List Repo) (name : List ℕ) → IsTrue (is_some (repo_of name rs)) → IsTrue (is_some (repo_of name (map change rs)))
  stays_changed rs name = found_in_map (λ repo. bytes_eq repo.name name) change (λ repo. ap (λ (n : List ℕ). bytes_eq n name) (named repo)) rs
