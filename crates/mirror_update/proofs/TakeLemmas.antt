-- The packages that the indexes say are taken in.
use Rattle.std.proofs.Common.{◌≡◌, ◌≤◌, List, [], ◌∷◌, length, IsSome, IfOk, Result, Ok, Err, refl, sym, ap, ◌∙◌, subst, arith, All}
use Rattle.std.specs.List.{AllByRecursion}
use Rattle.ap_text.specs.Paths.{below_folder}
use Rattle.ap_host.specs.Disk.{Path, Files}
use Rattle.std.specs.BTreeMap.{BTreeMap, get}
use Rattle.package_core.specs.Card.{Card, IsPackage}
use Rattle.package_core.specs.Order.{package_cmp}
use Rattle.package_core.specs.Whole.{IsSaid, IsWhole}
use Rattle.package_list.specs.Answers.{join_answer}
use Rattle.package_list.specs.Lists.{joined, union}
use Rattle.package_list.specs.Sorted.{IsAscending}
use Rattle.release_file.specs.Release.{ReleaseView}
use Rattle.index_text.specs.Index.{ArePackages}
use Rattle.machine_state.specs.declared.limit.Limit.TheVariants.{Packages}
use Rattle.machine_state.specs.declared.refusal.Refusal.{Refusal}
use Rattle.machine_state.specs.declared.arrived.UpdateFault.{UpdateFault}
use Rattle.machine_state.specs.declared.arrived.UpdateFault.TheVariants as faults
use Rattle.machine_state.specs.Lists.{IsKnown, IsNamedList}
use Rattle.machine_state.specs.State.{IsCatalogue}
use Rattle.machine_state.specs.Values.{MirrorView}
use Rattle.package_intake.specs.Index.{AreShort, IndexEntry, cards_of, entry_for}
use Rattle.package_intake.specs.Inside.{path_at}
use Rattle.package_list.specs.declared.fault.ListFault.{ListFault}
use Rattle.mirror_update.specs.Wanted.{wanted_architectures}
use Rattle.mirror_update.specs.Answers.{chosen_in}
use Rattle.package_intake.specs.Steps.{FaultGives, Gives, and_then, or_refused}
use Rattle.package_intake.specs.Taking.{AreTakenIn, each_taken, taken_file}
use Rattle.package_intake.specs.Catalogue.{within_catalogue}
use Rattle.package_intake.proofs.ArrivalLemmas.{There, joined_ascending, joined_good, joined_paths, paths_short, paths_there}
use Rattle.package_intake.proofs.AddLemmas.{within}
use Rattle.package_intake.proofs.FitLemmas.{catalogue_more, taken_all, taken_ascending, taken_equal, taken_known}
use Rattle.package_intake.proofs.ListLemmas.{by_places, each_of}
use Rattle.mirror_update.specs.Arrival.{chosen_of, entries_arrive, files_arrive, knowable, list_arrives}
use Rattle.mirror_update.specs.Fits.{IsKnowable}
use Rattle.mirror_update.proofs.ListLemmas.{alike_clash, joined_apart}
use Rattle.mirror_update.proofs.FilterLemmas.{chosen_ascending, chosen_hold, chosen_named}

-- ---- one step behind another
fault_then : {X Y : Type 0} (fault : UpdateFault) (r : Result X Refusal) (f : X → Result Y Refusal) → FaultGives fault r → FaultGives fault (and_then r f)
fault_then faults.HostFault r f h = tt
fault_then faults.InboxFault r f h = tt
fault_then faults.OutOfMemory r f h = tt
fault_then (faults.Refused refusal) r f h = ap (λ x. and_then x f) h

fault_behind : {X Y : Type 0} (fault : UpdateFault) (r : Result X Refusal) (f : X → Result Y Refusal) (x : X) → r ≡ Ok x → FaultGives fault (f x) → FaultGives fault (and_then r f)
fault_behind {X = X} {Y = Y} fault r f x e h = subst (λ (y : Result X Refusal). FaultGives fault (and_then y f)) (sym e) h

-- ---- the files, and what is known
module _ (files : Files) (known : List Card) (folder : Path) (path : Card → Path) (ps : List Card) where
  abbrev steps : Result (List Card) Refusal
  steps = each_taken (λ p. taken_file files known (below_folder folder (path p)) p) ps

  pub take_fault : (fault : UpdateFault) → FaultGives fault steps → FaultGives fault (files_arrive files known folder path ps)
  take_fault fault h = fault_then fault steps (knowable known) h

  pub check_fault : (fault : UpdateFault) (list : List Card) → steps ≡ Ok list → FaultGives fault (within_catalogue (union known list)) → FaultGives fault (files_arrive files known folder path ps)
  check_fault fault list s h = fault_behind fault steps (knowable known) list s (fault_then fault (within_catalogue (union known list)) (λ u. Ok list) h)

  pub taken_ok : (list : List Card) → steps ≡ Ok list → within_catalogue (union known list) ≡ Ok tt → files_arrive files known folder path ps ≡ Ok list
  taken_ok list s h = ap (λ r. and_then r (knowable known)) s ∙ ap (λ r. and_then r (λ u. Ok list)) h

-- ---- the packages of the indexes
module _ (files : Files) (known : List Card) (mirror : MirrorView) (release : ReleaseView) (entries : List IndexEntry) where
  abbrev joins : Result (List Card) Refusal
  joins = or_refused Packages (join_answer (cards_of entries))

  abbrev more : List Card → Result (List Card) Refusal
  more ps = list_arrives files known mirror entries (chosen_of mirror release ps)

  pub join_fault : (fault : UpdateFault) → FaultGives fault joins → FaultGives fault (entries_arrive files known mirror release entries)
  unfolding entries_arrive
  join_fault fault h = fault_then fault joins more h

  pub list_gives : (r : Result (List Card) UpdateFault) (ps : List Card) → joins ≡ Ok ps → Gives r (more ps) → Gives r (entries_arrive files known mirror release entries)
  unfolding entries_arrive
  list_gives (Ok list) ps j h = ap (λ r. and_then r more) j ∙ h
  list_gives (Err fault) ps j h = fault_behind fault joins more ps j h

-- ---- what was taken in can be known
taken_length : (known ps qs : List Card) → AreTakenIn known ps qs → length qs ≡ length ps
taken_length known [] [] h = refl
taken_length known [] (q ∷ qs) h = absurd h
taken_length known (p ∷ ps) [] h = absurd h
taken_length known (p ∷ ps) (q ∷ qs) h = omega (arith, taken_length known ps qs h.1)

pub knowable_list : (known all ps list : List Card) → IsCatalogue known → IsNamedList all ps → AreTakenIn known ps list → within_catalogue (union known list) ≡ Ok tt → IsKnowable known list
knowable_list known all ps list c n t h =
    let small = within (union known list) h in
    let up = taken_ascending known ps list t n.sorted in
    record {
      whole = by_places IsWhole list (taken_all known ps list IsWhole (λ p q g. g.whole) t);
      catalogue = catalogue_more known ps list c t small.0 small.1;
      listed = record {
        sorted = up;
        apart = sym (alike_clash ps list (taken_equal known ps list t)) ∙ n.apart;
        listed = by_places (IsKnown (union known list)) list (taken_known known ps list c.sorted up t);
        few = omega (arith, taken_length known ps list t, n.few);
      };
    }

-- ---- what is chosen of them
module _ (mirror : MirrorView) (release : ReleaseView) (entries : List IndexEntry) (ps : List Card) (is : ps ≡ chosen_in mirror release entries) where
  chosen_all : (P : Card → Type 0) → AllByRecursion P (joined (cards_of entries)) → AllByRecursion P ps
  chosen_all P h = subst (AllByRecursion P) (sym is) (chosen_hold P mirror.filter mirror.with_deps (wanted_architectures mirror release) (joined (cards_of entries)) h)

  pub chosen_up : IsAscending package_cmp ps
  chosen_up = subst (IsAscending package_cmp) (sym is) (chosen_ascending mirror.filter mirror.with_deps (wanted_architectures mirror release) (joined (cards_of entries)) (joined_ascending (cards_of entries)))

  pub chosen_paths : (paths : BTreeMap Card Path) → ((q : Card) → get package_cmp paths q ≡ entry_for entries q) → All (λ p. IsSome (get package_cmp paths p)) ps
  chosen_paths paths same = paths_there paths entries ps same (chosen_all (There entries) (joined_paths entries))

  pub chosen_short : (paths : BTreeMap Card Path) (folder : Path) → ((q : Card) → get package_cmp paths q ≡ entry_for entries q) → length folder ≤ 200 → AreShort entries → All (λ p. length (below_folder folder (path_at paths p)) ≤ 1000) ps
  chosen_short paths folder same small short = paths_short paths entries folder ps same small short (chosen_all (There entries) (joined_paths entries))

  pub chosen_good : ArePackages entries → All (λ p. IsPackage p × IsSaid p.said) ps
  chosen_good h =
      by_places (λ p. IsPackage p × IsSaid p.said) ps
      (chosen_all (λ p. IsPackage p × IsSaid p.said) (each_of (λ p. IsPackage p × IsSaid p.said) (joined (cards_of entries)) (joined_good entries h)))

  pub chosen_knowable : (known list : List Card) → IsCatalogue known → or_refused Packages (join_answer (cards_of entries)) ≡ Ok (joined (cards_of entries)) → AreTakenIn known ps list → within_catalogue (union known list) ≡ Ok tt → IsKnowable known list
  chosen_knowable known list c j t w =
      let apart = joined_apart (cards_of entries) (joined (cards_of entries)) (answered (join_answer (cards_of entries)) j) in
      let named = chosen_named mirror.filter mirror.with_deps (wanted_architectures mirror release) (joined (cards_of entries)) (joined_ascending (cards_of entries)) apart in
      knowable_list known (joined (cards_of entries)) ps list c (subst (IsNamedList (joined (cards_of entries))) (sym is) named) t w
    where
      answered : (r : Result (List Card) ListFault) → or_refused Packages r ≡ Ok (joined (cards_of entries)) → r ≡ Ok (joined (cards_of entries))
      answered (Ok xs) h = let same : xs ≡ joined (cards_of entries) = cc in ap Ok same
      answered (Err e) h = cc

-- what two facts of a value make
pub both_ok : {X E : Type 0} (r : Result X E) (P Q R : X → Type 0) → ((x : X) → P x → Q x → R x) → IfOk r P → IfOk r Q → IfOk r R
both_ok (Ok x) P Q R f p q = f x p q
both_ok (Err e) P Q R f p q = tt
