-- The laws of arrivals.
use Rattle.std.proofs.Common.{◌≡◌, ℕ, Bool, true, false, cond, List, [], ◌∷◌, map, Option, Some, None, Result, Ok, Err, refl, sym, ap, ◌∙◌, subst, nat_lt, ltb-false, IsTrue}
use Rattle.std.specs.List.{All, AllByRecursion}
use Rattle.std.specs.Str.{bytes_eq}
use Rattle.ap_text.specs.Paths.{below_folder}
use Rattle.ap_host.specs.Disk.{Path, Content, Files}
use Rattle.digest_set.specs.declared.facts.Digests.{Digests}
use Rattle.digest_set.specs.declared.facts.What.{What}
use Rattle.digest_set.specs.Facts.{digests_of}
use Rattle.digest_set.specs.Difference.{difference}
use Rattle.package_core.specs.Card.{Card, IsPackage, completed}
use Rattle.package_core.specs.Order.{package_cmp}
use Rattle.package_core.specs.Whole.{IsSaid, IsWhole}
use Rattle.package_core.proofs.OrderLaws.{package_total}
use Rattle.package_list.specs.Sorted.{IsAscending, equal_of}
use Rattle.package_list.specs.Lists.{union, joined, has_member}
use Rattle.package_list.specs.Answers.{join_answer}
use Rattle.package_list.proofs.SortedLemmas.{put_has}
use Rattle.machine_state.specs.declared.limit.Limit.TheVariants.{Packages, File}
use Rattle.machine_state.specs.declared.refusal.Refusal.{Refusal}
use Rattle.machine_state.specs.declared.refusal.Refusal.TheVariants.{Limit}
use Rattle.machine_state.specs.declared.repo.Repo.{Repo}
use Rattle.machine_state.specs.Ascending as plain
use Rattle.machine_state.specs.Limits.{limit_number}
use Rattle.machine_state.specs.State.{IsCatalogue, IsKnown, IsNamedList, Valid, repo_cmp, repo_of}
use Rattle.machine_state.specs.Values.{StateView}
use Rattle.index_text.specs.Index.{ArePackages, Lists}
use Rattle.package_intake.specs.Index.{IndexEntry, IsIndex, cards_of, index_bytes, path_of}
use Rattle.package_intake.specs.Arrival.{Arrives, BytesArrive, check_answer, entries_arrive, fitting, index_arrives, index_path, list_in, list_of}
use Rattle.package_intake.specs.Taking.{agreed, compared, each_taken, facts_of, known_of, of_known_or_file, standing, taken_file}
use Rattle.package_intake.specs.Steps.{and_then, or_refused}
use Rattle.package_intake.specs.Taking.{AreTakenIn, IsTakenIn}
use Rattle.package_intake.specs.Fits.{FitsIn, Fitting, added, with_more}
use Rattle.package_intake.proofs.ListLemmas.{each_of, all_map, found_alike, found_equal, found_has, found_holds, has_found}
use Rattle.package_intake.proofs.TakenLemmas.{AreDigests, find_holds, of_bytes, of_card, standing_taken, went_on}
use Rattle.package_intake.proofs.ArrivalLemmas.{joined_ascending, joined_good, joined_is}
use Rattle.package_intake.proofs.AddLemmas.{fitting_fits}
use Rattle.package_intake.proofs.FitLemmas.{later_differs, own_named, same_more}

-- ---- nothing new

pub union_has : (xs ys : List Card) → IsAscending package_cmp xs → AllByRecursion (λ p. has_member xs p ≡ true) ys → union xs ys ≡ xs
union_has xs [] a h = refl
union_has xs (y ∷ ys) a h = ap (λ (l : List Card). union l ys) (put_has package_total xs y a h.0) ∙ union_has xs ys a h.1

-- what a repository has is known
known_has : (known own : List Card) (p : Card) → AllByRecursion (IsKnown known) own → has_member own p ≡ true → has_member known p ≡ true
known_has known own p k h =
    let f = has_found package_total own p h in
    let is : equal_of package_cmp known f.0 ≡ Some f.0 = found_holds package_total (IsKnown known) own p f.0 k f.1 in
    found_has package_total known p f.0 (sym (found_alike package_total known f.0 p (found_equal package_total own p f.0 f.1)) ∙ is)

rest_same : (name : List ℕ) (list : List Card) (r : Repo) (rs : List Repo) → bytes_eq r.name name ≡ true → plain.IsBelow repo_cmp r rs → map (with_more name list) rs ≡ rs
rest_same name list r [] e b = refl
rest_same name list r (s ∷ rs) e b = (λ i. same_more name list s (later_differs name r s e b.0) i ∷ rest_same name list r rs e b.1 i)

repos_same : (known : List Card) (name : List ℕ) (list : List Card) (repos : List Repo) → plain.IsAscending repo_cmp repos → AllByRecursion (λ (repo : Repo). IsNamedList known repo.list) repos → AllByRecursion (λ p. has_member (list_in (repo_of name repos)) p ≡ true) list → map (with_more name list) repos ≡ repos
repos_same known name list [] s n h = refl
repos_same known name list (r ∷ rs) s n h = by_test (bytes_eq r.name name) refl h (repos_same known name list rs s.1 n.1)
  where
    by_test : (c : Bool) → bytes_eq r.name name ≡ c → AllByRecursion (λ p. has_member (list_in (cond c (Some r) (repo_of name rs))) p ≡ true) list → (AllByRecursion (λ p. has_member (list_in (repo_of name rs)) p ≡ true) list → map (with_more name list) rs ≡ rs) → cond c (record r { list = union r.list list }) r ∷ map (with_more name list) rs ≡ r ∷ rs
    by_test true e k more =
        let own = union_has r.list list n.0.sorted k in
        let rest = rest_same name list r rs e s.0 in
        (λ i. (record r { list = own i }) ∷ rest i)
    by_test false e k more = ap (λ (l : List Repo). r ∷ l) (more k)

pub added_same : (state : StateView) (name : List ℕ) (list : List Card) → Valid state → All (λ p. IsTrue (has_member (list_of state name) p)) list → added state name list ≡ state
added_same state name list v h =
    let lists = each_of (λ (repo : Repo). IsNamedList state.known repo.list) state.repos v.repos.lists in
    let has = each_of (λ p. has_member (list_of state name) p ≡ true) list h in
    let known = union_has state.known list v.known.sorted (all_map (λ p. has_member (list_of state name) p ≡ true) (λ p. has_member state.known p ≡ true) (λ p g. known_has state.known (list_of state name) p (each_of (IsKnown state.known) (list_of state name) (own_named state name v).listed) g) list has) in
    let repos = repos_same state.known name list state.repos v.repos.sorted lists has in
    (λ i. record state { known = known i; repos = repos i })

-- ---- what was taken
record Made (p made : Card) : Type 0 where
  found : Digests
  digests : AreDigests found
  agrees : difference p.said found ≡ None
  is : made ≡ completed p found

made_of : (path : Path) (p made : Card) (found : Digests) → AreDigests found → compared path p found ≡ Ok made → Made p made
made_of path p made found d h = by_difference (difference p.said found) refl h
  where
    by_difference : (o : Option (What × List ℕ × List ℕ)) → difference p.said found ≡ o → agreed path p found o ≡ Ok made → Made p made
    by_difference None e g = let s : completed p found ≡ made = cc in record { found = found; digests = d; agrees = e; is = sym s }
    by_difference (Some (what, said, other)) e g = cc

made_by : (path : Path) (p made : Card) (known : List Card) (o : Option Card) (content : Content) → IsCatalogue known → known_of known p.said.sha256 ≡ o → of_known_or_file path p o content ≡ Ok made → Made p made
made_by path p made known (Some q) content c e h = made_of path p made (facts_of q) (of_card q (find_holds IsWhole (λ (x : Card). bytes_eq x.said.sha256 p.said.sha256) known q (each_of IsWhole known c.packages) e)) h
made_by path p made known None None c e h = cc
made_by path p made known None (Some bytes) c e h = made_of path p made (digests_of bytes) (of_bytes bytes) h

abbrev sized : Bool → Result Card Refusal → Result Card Refusal
sized b next = cond b (Err (Limit File)) next

is_taken : (files : Files) (known : List Card) (path : Path) (p q : Card) → IsCatalogue known → IsPackage p → IsSaid p.said → taken_file files known path p ≡ Ok q → IsTakenIn known p q
unfolding taken_file
is_taken files known path p q c d s h = by_size (nat_lt (limit_number File) p.said.size) refl h
  where
    by_size : (b : Bool) → nat_lt (limit_number File) p.said.size ≡ b → sized b (and_then (of_known_or_file path p (known_of known p.said.sha256) (files path)) (λ m. Ok (standing known m))) ≡ Ok q → IsTakenIn known p q
    by_size true e g = cc
    by_size false e g =
        let on = went_on (of_known_or_file path p (known_of known p.said.sha256) (files path)) (λ m. Ok (standing known m)) q g in
        let m = made_by path p on.0 known (known_of known p.said.sha256) (files path) c refl on.1 in
        let is : standing known on.0 ≡ q = let same = on.2 in cc in
        subst (IsTakenIn known p) (ap (standing known) (sym m.is) ∙ is) (standing_taken known p m.found c d s m.digests m.agrees (ltb-false (limit_number File) p.said.size e))

are_taken : (known : List Card) (take : Card → Result Card Refusal) → ((p q : Card) → IsPackage p → IsSaid p.said → take p ≡ Ok q → IsTakenIn known p q) → (ps qs : List Card) → AllByRecursion (λ p. IsPackage p × IsSaid p.said) ps → each_taken take ps ≡ Ok qs → AreTakenIn known ps qs
are_taken known take one [] [] d h = tt
are_taken known take one [] (q ∷ qs) d h = cc
are_taken known take one (p ∷ ps) qs d h =
    let first = went_on (take p) (λ y. and_then (each_taken take ps) (λ ys. Ok (y ∷ ys))) qs h in
    let rest = went_on (each_taken take ps) (λ ys. Ok (first.0 ∷ ys)) qs first.2 in
    let is : first.0 ∷ rest.0 ≡ qs = let same = rest.2 in cc in
    subst (AreTakenIn known (p ∷ ps)) is (one p first.0 d.0.0 d.0.1 first.1, are_taken known take one ps rest.0 d.1 rest.1)

entries_fit : (files : Files) (known own : List Card) (folder : Path) (entries : List IndexEntry) (list : List Card) → IsCatalogue known → ArePackages entries → entries_arrive files known own folder entries ≡ Ok list → Fitting known own list
unfolding entries_arrive
entries_fit files known own folder entries list c d h =
    let first = went_on (or_refused Packages (join_answer (cards_of entries))) (λ ps. and_then (each_taken (λ p. taken_file files known (below_folder folder (path_of entries p)) p) ps) (λ l. fitting known own l)) list h in
    let second = went_on (each_taken (λ p. taken_file files known (below_folder folder (path_of entries p)) p) first.0) (λ l. fitting known own l) list first.2 in
    let third = went_on (check_answer known own second.0) (λ u. Ok second.0) list second.2 in
    let is : second.0 ≡ list = let same = third.2 in cc in
    let joined_here : first.0 ≡ joined (cards_of entries) = joined_is Packages (cards_of entries) first.0 first.1 in
    let good : AllByRecursion (λ p. IsPackage p × IsSaid p.said) first.0 = each_of (λ p. IsPackage p × IsSaid p.said) first.0 (subst (λ (l : List Card). All (λ p. IsPackage p × IsSaid p.said) l) (sym joined_here) (joined_good entries d)) in
    record {
      packages = first.0;
      ascending = subst (λ (l : List Card). IsAscending package_cmp l) (sym joined_here) (joined_ascending (cards_of entries));
      taken = subst (λ (l : List Card). AreTakenIn known first.0 l) is (are_taken known (λ p. taken_file files known (below_folder folder (path_of entries p)) p) (λ p q a b g. is_taken files known (below_folder folder (path_of entries p)) p q c a b g) first.0 second.0 good second.1);
      checked = ap (λ (l : List Card). check_answer known own l) (sym is) ∙ third.1;
    }

pub arrives_fit : ((text : List ℕ) (entries : List IndexEntry) → Lists text entries → ArePackages entries) → (files : Files) (state : StateView) (name : List ℕ) (folder : Path) (list : List Card) → Valid state → Arrives files state.known (list_of state name) folder (Ok list) → FitsIn state name list
unfolding Arrives
arrives_fit packages files state name folder list v h = by_bytes (index_bytes (index_path folder) (files (index_path folder))) h
  where
    by_index : (bytes : List ℕ) (index : Result (List IndexEntry) ℕ) → IsIndex bytes index → Ok list ≡ index_arrives files state.known (list_of state name) folder index → FitsIn state name list
    by_index bytes (Ok entries) l e = fitting_fits state name (list_of state name) list v refl (entries_fit files state.known (list_of state name) folder entries list v.known (packages bytes entries l) (sym e))
    by_index bytes (Err line) l e = cc

    by_bytes : (r : Result (List ℕ) Refusal) → BytesArrive files state.known (list_of state name) folder r (Ok list) → FitsIn state name list
    by_bytes (Ok bytes) g = by_index bytes g.0 g.1 g.2
    by_bytes (Err refusal) g = cc
