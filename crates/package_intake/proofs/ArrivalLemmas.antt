-- The steps of an arrival, joined.
use Rattle.std.proofs.Common.{◌≡◌, ◌≤◌, Bool, true, false, cond, List, [], ◌∷◌, length, Option, Some, None, IsSome, unwrap_or, Result, Ok, Err, refl, sym, ap, ◌∙◌, subst, arith, find, length-append}
use Rattle.std.specs.Option.{option_map}
use Rattle.std.specs.Ordering.{is_eq}
use Rattle.std.specs.List.{All, AllByRecursion, Contains}
use Rattle.std.proofs.lemmas.List.Elements.{All-contains, All-contains_itself}
use Rattle.std.specs.BTreeMap.{BTreeMap, get}
use Rattle.ap_text.specs.Paths.{below_folder}
use Rattle.ap_host.specs.Disk.{Path, Files}
use Rattle.package_core.specs.Card.{Card, IsPackage}
use Rattle.package_core.specs.Whole.{IsSaid}
use Rattle.package_core.specs.Order.{package_cmp}
use Rattle.package_core.proofs.OrderLaws.{package_total}
use Rattle.package_list.specs.declared.fault.ListFault.{ListFault}
use Rattle.package_list.specs.Sorted.{IsAscending, equal_of}
use Rattle.package_list.specs.Lists.{joined}
use Rattle.package_list.specs.Answers.{join_answer, err_or, first_refusal}
use Rattle.package_list.proofs.SortedLemmas.{union_ascending}
use Rattle.package_list.proofs.Unions.{equal_of_union}
use Rattle.index_text.specs.Index.{ArePackages}
use Rattle.machine_state.specs.declared.limit.Limit.{Limit as LimitKind}
use Rattle.machine_state.specs.declared.limit.Limit.TheVariants.{Packages}
use Rattle.machine_state.specs.declared.refusal.Refusal.{Refusal}
use Rattle.machine_state.specs.declared.arrived.UpdateFault.{UpdateFault}
use Rattle.machine_state.specs.declared.arrived.UpdateFault.TheVariants as faults
use Rattle.package_intake.specs.Index.{IndexEntry, cards_of, entry_for, path_of}
use Rattle.package_intake.specs.Steps.{and_then, or_refused}
use Rattle.package_intake.specs.Taking.{taken_file, each_taken}
use Rattle.package_intake.specs.Arrival.{check_answer, fitting, entries_arrive}
use Rattle.package_intake.specs.Steps.{Gives, FaultGives}
use Rattle.package_intake.specs.Index.{AreShort}
use Rattle.package_intake.specs.Inside.{path_at}
use Rattle.package_intake.proofs.ListLemmas.{by_places, each_of, all_map, all_union, each_itself}

-- ---- packages that are joined
pub joined_is : (limit : LimitKind) (cards list : List Card) → or_refused limit (join_answer cards) ≡ Ok list → list ≡ joined cards
joined_is limit cards list h = by_refusal (first_refusal [] cards) h
  where
    by_refusal : (o : Option ListFault) → or_refused limit (err_or o (joined cards)) ≡ Ok list → list ≡ joined cards
    by_refusal None g = let s : joined cards ≡ list = cc in sym s
    by_refusal (Some e) g = cc

pub joined_ascending : (cards : List Card) → IsAscending package_cmp (joined cards)
joined_ascending cards = union_ascending package_total [] cards tt

cards_hold : (P : Card → Type 0) (entries : List IndexEntry) → AllByRecursion (λ e. P e.0) entries → AllByRecursion P (cards_of entries)
cards_hold P [] h = tt
cards_hold P (e ∷ es) h = (h.0, cards_hold P es h.1)

pub joined_good : (entries : List IndexEntry) → ArePackages entries → All (λ p. IsPackage p × IsSaid p.said) (joined (cards_of entries))
joined_good entries h = by_places (λ p. IsPackage p × IsSaid p.said) (joined (cards_of entries)) (all_union package_total (λ p. IsPackage p × IsSaid p.said) [] (cards_of entries) tt (cards_hold (λ p. IsPackage p × IsSaid p.said) entries h))

pub joined_among : (entries : List IndexEntry) (p : Card) → Contains (joined (cards_of entries)) p → Contains (cards_of entries) p
joined_among entries p h =
    All-contains (Contains (cards_of entries)) (joined (cards_of entries)) p
    (by_places (Contains (cards_of entries)) (joined (cards_of entries)) (all_union package_total (Contains (cards_of entries)) [] (cards_of entries) tt (each_of (Contains (cards_of entries)) (cards_of entries) (All-contains_itself (cards_of entries)))))
    h

-- ---- the paths of what was joined
abbrev pub There : List IndexEntry → Card → Type 0
There entries p = (rest : Path) × (entry_for entries p ≡ Some rest) × (AreShort entries → length rest ≤ 700)

found_path : (entries : List IndexEntry) (p q : Card) → equal_of package_cmp (cards_of entries) p ≡ Some q → There entries p
found_path [] p q e = cc
found_path (x ∷ xs) p q e = by_test (is_eq (package_cmp x.0 p)) e (found_path xs p q)
  where
    by_test : (b : Bool) → cond b (Some x.0) (equal_of package_cmp (cards_of xs) p) ≡ Some q → (equal_of package_cmp (cards_of xs) p ≡ Some q → There xs p) → (rest : Path) × (option_map (λ (e : IndexEntry). e.1) (cond b (Some x) (find (λ e. is_eq (package_cmp e.0 p)) xs)) ≡ Some rest) × (AreShort (x ∷ xs) → length rest ≤ 700)
    by_test true g more = (x.1, refl, λ h. h.0)
    by_test false g more = let t = more g in (t.0, t.1, λ h. t.2 h.1)

paths_of : (entries : List IndexEntry) (ps : List Card) → AllByRecursion (λ p. equal_of package_cmp (joined (cards_of entries)) p ≡ Some p) ps → AllByRecursion (There entries) ps
paths_of entries [] e = tt
paths_of entries (p ∷ ps) e = (found_path entries p p (sym (equal_of_union package_total [] (cards_of entries) p tt) ∙ e.0), paths_of entries ps e.1)

pub joined_paths : (entries : List IndexEntry) → AllByRecursion (There entries) (joined (cards_of entries))
joined_paths entries = paths_of entries (joined (cards_of entries)) (each_itself package_total (joined (cards_of entries)) (joined_ascending (cards_of entries)))

pub paths_there : (paths : BTreeMap Card Path) (entries : List IndexEntry) (ps : List Card) → ((q : Card) → get package_cmp paths q ≡ entry_for entries q) → AllByRecursion (There entries) ps → All (λ p. IsSome (get package_cmp paths p)) ps
paths_there paths entries ps same h = by_places (λ p. IsSome (get package_cmp paths p)) ps (all_map (There entries) (λ p. IsSome (get package_cmp paths p)) (λ p t. subst (λ (o : Option Path). IsSome o) (sym (same p ∙ t.1)) refl) ps h)

pub paths_short : (paths : BTreeMap Card Path) (entries : List IndexEntry) (folder : Path) (ps : List Card) → ((q : Card) → get package_cmp paths q ≡ entry_for entries q) → length folder ≤ 200 → AreShort entries → AllByRecursion (There entries) ps → All (λ p. length (below_folder folder (path_at paths p)) ≤ 1000) ps
paths_short paths entries folder ps same small short h = by_places (λ p. length (below_folder folder (path_at paths p)) ≤ 1000) ps (all_map (There entries) (λ p. length (below_folder folder (path_at paths p)) ≤ 1000) one ps h)
  where
    one : (p : Card) → There entries p → length (below_folder folder (path_at paths p)) ≤ 1000
    one p t =
        let is : path_at paths p ≡ t.0 = ap (λ o. unwrap_or o []) (same p ∙ t.1) in
        subst (λ (rest : Path). length (below_folder folder rest) ≤ 1000) (sym is) (omega (arith, length-append folder (47 ∷ t.0), small, t.2 short))

pub same_steps : (files : Files) (known : List Card) (folder : Path) (paths : BTreeMap Card Path) (entries : List IndexEntry) (ps : List Card) → ((q : Card) → get package_cmp paths q ≡ entry_for entries q) → each_taken (λ p. taken_file files known (below_folder folder (path_at paths p)) p) ps ≡ each_taken (λ p. taken_file files known (below_folder folder (path_of entries p)) p) ps
same_steps files known folder paths entries ps same = (λ i. each_taken (λ p. taken_file files known (below_folder folder (unwrap_or (same p i) [])) p) ps)

-- ---- the steps one after the other
fault_then : {X Y : Type 0} (fault : UpdateFault) (r : Result X Refusal) (f : X → Result Y Refusal) → FaultGives fault r → FaultGives fault (and_then r f)
fault_then faults.HostFault r f h = tt
fault_then faults.InboxFault r f h = tt
fault_then faults.OutOfMemory r f h = tt
fault_then (faults.Refused refusal) r f h = ap (λ x. and_then x f) h

fault_behind : {X Y : Type 0} (fault : UpdateFault) (r : Result X Refusal) (f : X → Result Y Refusal) (x : X) → r ≡ Ok x → FaultGives fault (f x) → FaultGives fault (and_then r f)
fault_behind {X = X} {Y = Y} fault r f x e h = subst (λ (y : Result X Refusal). FaultGives fault (and_then y f)) (sym e) h

module _ (files : Files) (known own : List Card) (folder : Path) (entries : List IndexEntry) where
  abbrev steps : List Card → Result (List Card) Refusal
  steps ps = each_taken (λ p. taken_file files known (below_folder folder (path_of entries p)) p) ps

  pub join_fault : (fault : UpdateFault) → FaultGives fault (or_refused Packages (join_answer (cards_of entries))) → FaultGives fault (entries_arrive files known own folder entries)
  unfolding entries_arrive
  join_fault fault h = fault_then fault (or_refused Packages (join_answer (cards_of entries))) (λ ps. and_then (steps ps) (λ list. fitting known own list)) h

  pub take_fault : (fault : UpdateFault) (ps : List Card) → or_refused Packages (join_answer (cards_of entries)) ≡ Ok ps → FaultGives fault (steps ps) → FaultGives fault (entries_arrive files known own folder entries)
  unfolding entries_arrive
  take_fault fault ps j h = fault_behind fault (or_refused Packages (join_answer (cards_of entries))) (λ xs. and_then (steps xs) (λ list. fitting known own list)) ps j (fault_then fault (steps ps) (λ list. fitting known own list) h)

  pub check_fault : (fault : UpdateFault) (ps list : List Card) → or_refused Packages (join_answer (cards_of entries)) ≡ Ok ps → steps ps ≡ Ok list → FaultGives fault (check_answer known own list) → FaultGives fault (entries_arrive files known own folder entries)
  unfolding entries_arrive
  check_fault fault ps list j s h =
      fault_behind fault (or_refused Packages (join_answer (cards_of entries))) (λ xs. and_then (steps xs) (λ l. fitting known own l)) ps j
      (fault_behind fault (steps ps) (λ l. fitting known own l) list s (fault_then fault (check_answer known own list) (λ u. Ok list) h))

  pub all_ok : (ps list : List Card) → or_refused Packages (join_answer (cards_of entries)) ≡ Ok ps → steps ps ≡ Ok list → check_answer known own list ≡ Ok tt → entries_arrive files known own folder entries ≡ Ok list
  unfolding entries_arrive
  all_ok ps list j s h =
      ap (λ r. and_then r (λ xs. and_then (steps xs) (λ l. fitting known own l))) j ∙ ap (λ r. and_then r (λ l. fitting known own l)) s ∙ ap (λ r. and_then r (λ u. Ok list)) h

-- what an error that is handed on tells
pub told_err : {X : Type 0} (r : Result X UpdateFault) (x y : UpdateFault) (wanted : Result X Refusal) → r ≡ Err x → x ≡ y → FaultGives y wanted → Gives r wanted
told_err {X = X} r x y wanted e s h = subst (λ (z : Result X UpdateFault). Gives z wanted) (sym e) (subst (λ (z : UpdateFault). FaultGives z wanted) (sym s) h)
