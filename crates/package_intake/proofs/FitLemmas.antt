-- A list that is added to a repository.
use Rattle.std.proofs.Common.{◌≡◌, ◌⊎◌, Option, inl, inr, ℕ, ◌≤◌, Bool, true, false, cond, List, [], ◌∷◌, map, length, Some, None, Ok, refl, sym, ap, ◌∙◌, subst, arith, Ordering, Less, Equal, Greater}
use Rattle.std.specs.Ordering.{is_eq, nat_cmp}
use Rattle.std.specs.List.{All, AllByRecursion}
use Rattle.std.specs.Option.{option_or}
use Rattle.std.specs.Str.{bytes_eq}
use Rattle.std.specs.Cmp.Lexicographic.{slice_cmp}
use Rattle.std.proofs.lemmas.List.{length-map}
use Rattle.std.proofs.lemmas.Map.Text.{is_eq-slice_cmp}
use Rattle.std.proofs.lemmas.Cmp.{alike_right, nat_list_cmp_total}
use Rattle.package_core.specs.Card.{Card}
use Rattle.package_core.specs.Order.{package_cmp}
use Rattle.package_core.specs.Whole.{IsWhole}
use Rattle.package_core.proofs.OrderLaws.{package_total}
use Rattle.package_list.specs.Sorted.{IsAscending, equal_of}
use Rattle.package_list.specs.Lists.{union}
use Rattle.package_list.specs.Answers.{append_answer}
use Rattle.package_list.proofs.SortedLemmas.{union_ascending}
use Rattle.package_list.proofs.Unions.{equal_of_union}
use Rattle.machine_state.specs.declared.limit.Limit.TheVariants.{Known, Catalogue, File}
use Rattle.machine_state.specs.declared.repo.Repo.{Repo}
use Rattle.machine_state.specs.Ascending as plain
use Rattle.machine_state.specs.Limits.{limit_number}
use Rattle.machine_state.specs.State.{IsRepo, IsKnown, IsNamedList, IsCatalogue, Valid, repo_cmp, repo_of, text_length}
use Rattle.machine_state.specs.Values.{StateView}
use Rattle.machine_state.proofs.ListLemmas.{Appends, appends, apart_union, named_none}
use Rattle.machine_state.proofs.StayLemmas.{sorted_changed, stays_changed}
use Rattle.machine_state.proofs.ValidLemmas.{valid_with}
use Rattle.package_intake.specs.Arrival.{list_in, list_of}
use Rattle.package_intake.specs.Fits.{with_more, FitsIn, FitsWith}
use Rattle.package_intake.specs.Taking.{IsTakenIn, AreTakenIn}
use Rattle.package_intake.proofs.TakenLemmas.{find_holds}
use Rattle.package_intake.proofs.ListLemmas.{by_places, each_of, all_map, all_union, each_itself, AreEqual, ascending_alike}

-- ---- what is known goes on being known
pub known_more : (known list : List Card) (p : Card) → IsAscending package_cmp known → IsKnown known p → IsKnown (union known list) p
known_more known list p a h = equal_of_union package_total known list p a ∙ ap (λ e. option_or e (equal_of package_cmp list p)) h

known_all : (known list : List Card) (xs : List Card) → IsAscending package_cmp known → All (IsKnown known) xs → All (IsKnown (union known list)) xs
known_all known list xs a h = by_places (IsKnown (union known list)) xs (all_map (IsKnown known) (IsKnown (union known list)) (λ p. known_more known list p a) xs (each_of (IsKnown known) xs h))

list_more : (known list own : List Card) → IsAscending package_cmp known → IsNamedList known own → IsNamedList (union known list) own
list_more known list own a n = record { sorted = n.sorted; apart = n.apart; listed = known_all known list own a n.listed; few = n.few }

-- ---- what was taken
pub taken_equal : (known ps qs : List Card) → AreTakenIn known ps qs → AreEqual package_total ps qs
taken_equal known [] [] h = tt
taken_equal known [] (q ∷ qs) h = absurd h
taken_equal known (p ∷ ps) [] h = absurd h
taken_equal known (p ∷ ps) (q ∷ qs) h = (h.0.same, taken_equal known ps qs h.1)

pub taken_all : (known ps qs : List Card) (P : Card → Type 0) → ((p q : Card) → IsTakenIn known p q → P q) → AreTakenIn known ps qs → AllByRecursion P qs
taken_all known [] [] P f h = tt
taken_all known [] (q ∷ qs) P f h = absurd h
taken_all known (p ∷ ps) [] P f h = absurd h
taken_all known (p ∷ ps) (q ∷ qs) P f h = (f p q h.0, taken_all known ps qs P f h.1)

pub taken_ascending : (known ps qs : List Card) → AreTakenIn known ps qs → IsAscending package_cmp ps → IsAscending package_cmp qs
taken_ascending known ps qs h a = ascending_alike package_total ps qs (taken_equal known ps qs h) a

pub taken_known : (known ps qs : List Card) → IsAscending package_cmp known → IsAscending package_cmp qs → AreTakenIn known ps qs → AllByRecursion (IsKnown (union known qs)) qs
taken_known known ps qs a b h = each qs (taken_all known ps qs (λ q. (equal_of package_cmp known q ≡ Some q) ⊎ (equal_of package_cmp known q ≡ None)) (λ p q t. t.stands) h) (each_itself package_total qs b)
  where
    one : (q : Card) → (equal_of package_cmp known q ≡ Some q) ⊎ (equal_of package_cmp known q ≡ None) → equal_of package_cmp qs q ≡ Some q → IsKnown (union known qs) q
    one q (inl s) m = known_more known qs q a s
    one q (inr n) m = equal_of_union package_total known qs q a ∙ ap (λ e. option_or e (equal_of package_cmp qs q)) n ∙ m

    each : (xs : List Card) → AllByRecursion (λ q. (equal_of package_cmp known q ≡ Some q) ⊎ (equal_of package_cmp known q ≡ None)) xs → AllByRecursion (λ q. equal_of package_cmp qs q ≡ Some q) xs → AllByRecursion (IsKnown (union known qs)) xs
    each [] s m = tt
    each (x ∷ xs) s m = (one x s.0 m.0, each xs s.1 m.1)

-- ---- the catalogue
pub catalogue_more : (known ps list : List Card) → IsCatalogue known → AreTakenIn known ps list → length (union known list) ≤ limit_number Known → text_length (union known list) ≤ limit_number Catalogue → IsCatalogue (union known list)
catalogue_more known ps list c t few texts = record {
  packages = by_places IsWhole (union known list) (all_union package_total IsWhole known list (each_of IsWhole known c.packages) (taken_all known ps list IsWhole (λ p q h. h.whole) t));
  sorted = union_ascending package_total known list c.sorted;
  few = few;
  files = by_places (λ p. p.said.size ≤ limit_number File) (union known list) (all_union package_total (λ p. p.said.size ≤ limit_number File) known list (each_of (λ p. p.said.size ≤ limit_number File) known c.files) (taken_all known ps list (λ p. p.said.size ≤ limit_number File) (λ p q h. h.small) t));
  texts = texts;
}

-- ---- the repository's list
list_added : (known ps own list : List Card) → IsAscending package_cmp known → IsNamedList known own → IsAscending package_cmp ps → AreTakenIn known ps list → Appends own list → IsNamedList (union known list) (union own list)
list_added known ps own list a n b t g = record {
  sorted = union_ascending package_total own list n.sorted;
  apart = apart_union own list n.apart g.none;
  listed = by_places (IsKnown (union known list)) (union own list) (all_union package_total (IsKnown (union known list)) own list (each_of (IsKnown (union known list)) own (known_all known list own a n.listed)) (taken_known known ps list a (taken_ascending known ps list t b) t));
  few = g.few;
}

-- ---- the repositories
with_more_name : (name : List ℕ) (list : List Card) (repo : Repo) → (with_more name list repo).name ≡ repo.name
with_more_name name list repo = by_test (bytes_eq repo.name name)
  where
    by_test : (b : Bool) → (cond b (record repo { list = union repo.list list }) repo).name ≡ repo.name
    by_test true = refl
    by_test false = refl

repo_more : (name : List ℕ) (list : List Card) (repo : Repo) → IsRepo repo → IsRepo (with_more name list repo)
repo_more name list repo h = by_test (bytes_eq repo.name name)
  where
    by_test : (b : Bool) → IsRepo (cond b (record repo { list = union repo.list list }) repo)
    by_test true = record { name = h.name; comment = h.comment; distribution = h.distribution; component = h.component }
    by_test false = h

repos_more : (name : List ℕ) (list : List Card) (repos : List Repo) → AllByRecursion IsRepo repos → AllByRecursion IsRepo (map (with_more name list) repos)
repos_more name list [] h = tt
repos_more name list (r ∷ rs) h = (repo_more name list r h.0, repos_more name list rs h.1)

-- a repository that comes after one of that name has another
pub later_differs : (name : List ℕ) (r s : Repo) → bytes_eq r.name name ≡ true → repo_cmp r s ≡ Less → bytes_eq s.name name ≡ false
later_differs name r s e l = by_test (bytes_eq s.name name) refl
  where
    is_equal : (o : Ordering) → is_eq o ≡ true → o ≡ Equal
    is_equal Less h = cc
    is_equal Equal h = refl
    is_equal Greater h = cc

    cmp_of : (t : Repo) → bytes_eq t.name name ≡ true → slice_cmp nat_cmp t.name name ≡ Equal
    cmp_of t h = is_equal (slice_cmp nat_cmp t.name name) (is_eq-slice_cmp t.name name ∙ h)

    never : bytes_eq s.name name ≡ true → ⊥
    never h =
        let a = cmp_of r e in
        let b = cmp_of s h in
        let c : Less ≡ Equal = sym l ∙ alike_right nat_list_cmp_total s.name name r.name b ∙ a in cc

    by_test : (b : Bool) → bytes_eq s.name name ≡ b → bytes_eq s.name name ≡ false
    by_test true h = absurd (never h)
    by_test false h = h

pub same_more : (name : List ℕ) (list : List Card) (r : Repo) → bytes_eq r.name name ≡ false → with_more name list r ≡ r
same_more name list r e = ap (λ b. cond b (record r { list = union r.list list }) r) e

-- behind the repository of that name the others are as they were
rest_lists : (known list : List Card) (name : List ℕ) (r : Repo) (rs : List Repo) → IsAscending package_cmp known → bytes_eq r.name name ≡ true → plain.IsBelow repo_cmp r rs → AllByRecursion (λ repo. IsNamedList known repo.list) rs → AllByRecursion (λ repo. IsNamedList (union known list) repo.list) (map (with_more name list) rs)
rest_lists known list name r [] a e b h = tt
rest_lists known list name r (s ∷ rs) a e b h =
    (subst (λ (x : Repo). IsNamedList (union known list) x.list) (sym (same_more name list s (later_differs name r s e b.0))) (list_more known list s.list a h.0), rest_lists known list name r rs a e b.1 h.1)

lists_more : (known list : List Card) (name : List ℕ) (repos : List Repo) → IsAscending package_cmp known → plain.IsAscending repo_cmp repos → AllByRecursion (λ repo. IsNamedList known repo.list) repos → IsNamedList (union known list) (union (list_in (repo_of name repos)) list) → AllByRecursion (λ repo. IsNamedList (union known list) repo.list) (map (with_more name list) repos)
lists_more known list name [] a s h n = tt
lists_more known list name (r ∷ rs) a s h n = by_test (bytes_eq r.name name) refl n (lists_more known list name rs a s.1 h.1)
  where
    by_test : (c : Bool) → bytes_eq r.name name ≡ c → IsNamedList (union known list) (union (list_in (cond c (Some r) (repo_of name rs))) list) → (IsNamedList (union known list) (union (list_in (repo_of name rs)) list) → AllByRecursion (λ repo. IsNamedList (union known list) repo.list) (map (with_more name list) rs)) → AllByRecursion (λ repo. IsNamedList (union known list) repo.list) (cond c (record r { list = union r.list list }) r ∷ map (with_more name list) rs)
    by_test true e k more = (k, rest_lists known list name r rs a e s.0 h.1)
    by_test false e k more = (list_more known list r.list a h.0, more k)

-- the list of a repository is one by name, also of one that isn't there
pub own_named : (state : StateView) (name : List ℕ) → Valid state → IsNamedList state.known (list_of state name)
own_named state name v = by_repo (repo_of name state.repos) refl
  where
    by_repo : (o : Option Repo) → repo_of name state.repos ≡ o → IsNamedList state.known (list_in o)
    by_repo None e = named_none state.known
    by_repo (Some repo) e = find_holds (λ (r : Repo). IsNamedList state.known r.list) (λ (r : Repo). bytes_eq r.name name) state.repos repo (each_of (λ (r : Repo). IsNamedList state.known r.list) state.repos v.repos.lists) e

-- ---- all of it
pub taken_with : (known ps own list : List Card) → IsCatalogue known → IsNamedList known own → IsAscending package_cmp ps → AreTakenIn known ps list → append_answer own list ≡ Ok tt → length (union known list) ≤ limit_number Known → text_length (union known list) ≤ limit_number Catalogue → FitsWith known own list
taken_with known ps own list c n b t g few texts = record {
  whole = by_places IsWhole list (taken_all known ps list IsWhole (λ p q h. h.whole) t);
  catalogue = catalogue_more known ps list c t few texts;
  listed = list_added known ps own list c.sorted n b t (appends own list g);
}

-- what fits with what a state knows and the list of a repository fits in the state
pub fits_state : (state : StateView) (name : List ℕ) (list : List Card) → Valid state → FitsWith state.known (list_of state name) list → FitsIn state name list
fits_state state name list v f =
    let n : length (map (with_more name list) state.repos) ≡ length state.repos = length-map state.repos (with_more name list) in
    record {
      whole = f.whole;
      valid = valid_with state (union state.known list) (map (with_more name list) state.repos) v f.catalogue (record {
        each = by_places IsRepo (map (with_more name list) state.repos) (repos_more name list state.repos (each_of IsRepo state.repos v.repos.each));
        lists = by_places (λ (repo : Repo). IsNamedList (union state.known list) repo.list) (map (with_more name list) state.repos) (lists_more state.known list name state.repos v.known.sorted v.repos.sorted (each_of (λ (repo : Repo). IsNamedList state.known repo.list) state.repos v.repos.lists) f.listed);
        sorted = sorted_changed (with_more name list) (with_more_name name list) state.repos v.repos.sorted;
        few = omega (arith, n, v.repos.few);
      }) (λ p. known_more state.known list p v.known.sorted) (stays_changed (with_more name list) (with_more_name name list) state.repos);
    }
