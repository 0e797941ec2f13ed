use Rattle.std.proofs.Common.{◌≡◌, List, [], Ok, map, unwrap_or, refl, sym, ap, ◌∙◌, subst, All, Result}
use Rattle.std.proofs.lemmas.Result.{err_from_is_err_and}
use Rattle.std.specs.Option.{option_copied}
use Rattle.std.specs.Rc.{rc_value}
use Rattle.ap_host.proofs.ChangeLemmas.{GoesOn-map, GoesOn-none}
use Rattle.std.specs.List.{AllByRecursion, Contains}
use Rattle.package_core.specs.Card.{Card, IsPackage}
use Rattle.package_core.specs.Whole.{IsSaid}
use Rattle.machine_state.specs.declared.refusal.Refusal.{Refusal}
use Rattle.package_core.specs.Order.{package_cmp}
use Rattle.package_list.specs.Sorted.{IsAscending}
use Rattle.package_list.specs.Answers.{join_answer}
use Rattle.machine_state.specs.declared.limit.Limit.TheVariants.{Packages}
use Rattle.package_intake.specs.Index.{IndexEntry, cards_of, path_of}
use Rattle.package_intake.specs.Arrival.{entries_arrive, list_in}
use Rattle.package_intake.specs.Steps.{or_refused}
use Rattle.package_intake.specs.Steps.{FaultGives}
use Rattle.package_intake.proofs.ArrivalLemmas.{There, joined_is, joined_among, joined_ascending, joined_good, joined_paths, paths_there, paths_short, same_steps, join_fault, take_fault, check_fault, all_ok, told_err}
use Rattle.package_intake.proofs.LogLemmas.{all_nothing, all_fails, all_among}
use Rattle.ap_host.specs.Disk.{Path}
use Rattle.package_intake.specs.Faults.{FaultOfFiles}
use Rattle.package_intake.specs.Inside.{path_at}
use Rattle.package_intake.proofs.FaultLemmas.{files_among, handed_on, other_files}
use Rattle.package_intake.proofs.arrive.take_entries.Goals as goal

-- what was joined is among what the index says
members : (entries : List IndexEntry) (packages list : List Card) → packages ≡ cards_of entries → or_refused Packages (join_answer packages) ≡ Ok list → (p : Card) → Contains list p → Contains (cards_of entries) p
members entries packages list cards joins p there =
    joined_among entries p (subst (λ (ps : List Card). Contains ps p) (joined_is Packages (cards_of entries) list (ap (λ xs. or_refused Packages (join_answer xs)) (sym cards) ∙ joins)) there)

pub returns-in_err-packages-clause-log : goal.returns-in_err-packages-clause-log
returns-in_err-packages-clause-log g c = GoesOn-none _ _ _ refl (λ l. all_nothing _ _ _ c.from_residual.result _ l c.from_residual.ensures.0)

pub returns-in_err-joined-clause-log : goal.returns-in_err-joined-clause-log
returns-in_err-joined-clause-log g c = GoesOn-none _ _ _ refl (λ l. all_nothing _ _ _ c.from_residual-in_err-joined.result _ l c.from_residual-in_err-joined.ensures.0)

pub returns-in_err-joined-clause-told : goal.returns-in_err-joined-clause-told
returns-in_err-joined-clause-told g c catalogue small short f told =
    let e = err_from_is_err_and c.from_residual-in_err-joined.result c.from_residual-in_err-joined.ensures.1 in
    let entries = c.args.entries.items in
    let cards : map rc_value c.deref.result.now ≡ cards_of entries = ap (map rc_value) c.deref.ensures.value ∙ c.in_ok-packages.ensures.packages in
    let fault : FaultGives c.in_err-joined.field-0.0 (or_refused Packages (join_answer (cards_of entries))) = subst (λ (xs : List Card). FaultGives c.in_err-joined.field-0.0 (or_refused Packages (join_answer xs))) cards c.in_err-joined.ensures.answer in
    let is = join_fault f c.args.known.now (list_in (option_copied c.args.repo)) c.args.folder.now entries c.in_err-joined.field-0.0 fault in
    told_err c.from_residual-in_err-joined.result e.0 c.in_err-joined.field-0.0 (entries_arrive f c.args.known.now (list_in (option_copied c.args.repo)) c.args.folder.now entries) e.1 e.2 is

pub take_all-requires-clause-paths : goal.take_all-requires-clause-paths
take_all-requires-clause-paths g c =
    let entries = c.args.entries.items in
    let cards : map rc_value c.deref.result.now ≡ cards_of entries = ap (map rc_value) c.deref.ensures.value ∙ c.in_ok-packages.ensures.packages in
    let joins : or_refused Packages (join_answer (cards_of entries)) ≡ Ok c.in_ok-joined.joined = ap (λ xs. or_refused Packages (join_answer xs)) (sym cards) ∙ c.in_ok-joined.ensures.answer in
    let is = joined_is Packages (cards_of entries) c.in_ok-joined.joined joins in
    paths_there c.in_ok-packages.paths entries c.in_ok-joined.joined c.in_ok-packages.ensures.paths (subst (AllByRecursion (There entries)) (sym is) (joined_paths entries))

pub returns-in_err-list-clause-told : goal.returns-in_err-list-clause-told
returns-in_err-list-clause-told g c catalogue small short f told =
    let e = err_from_is_err_and c.from_residual-in_err-list.result c.from_residual-in_err-list.ensures.1 in
    let entries = c.args.entries.items in
    let known = c.args.known.now in
    let folder = c.args.folder.now in
    let ps = c.in_ok-joined.joined in
    let paths = c.in_ok-packages.paths in
    let cards : map rc_value c.deref.result.now ≡ cards_of entries = ap (map rc_value) c.deref.ensures.value ∙ c.in_ok-packages.ensures.packages in
    let joins : or_refused Packages (join_answer (cards_of entries)) ≡ Ok ps = ap (λ xs. or_refused Packages (join_answer xs)) (sym cards) ∙ c.in_ok-joined.ensures.answer in
    let there = subst (AllByRecursion (There entries)) (sym (joined_is Packages (cards_of entries) ps joins)) (joined_paths entries) in
    let fits = paths_short paths entries folder ps c.in_ok-packages.ensures.paths small short there in
    let fault = subst (λ (r : Result (List Card) Refusal). FaultGives c.in_err-list.field-0.0 r) (same_steps f known folder paths entries ps c.in_ok-packages.ensures.paths) (c.in_err-list.ensures.told catalogue fits f told) in
    let is = take_fault f known (list_in (option_copied c.args.repo)) folder entries c.in_err-list.field-0.0 ps joins fault in
    told_err c.from_residual-in_err-list.result e.0 c.in_err-list.field-0.0 (entries_arrive f c.args.known.now (list_in (option_copied c.args.repo)) c.args.folder.now entries) e.1 e.2 is

pub returns-in_err-check-clause-told : goal.returns-in_err-check-clause-told
returns-in_err-check-clause-told g c catalogue small short f told =
    let e = err_from_is_err_and c.from_residual-in_err-check.result c.from_residual-in_err-check.ensures.1 in
    let entries = c.args.entries.items in
    let known = c.args.known.now in
    let folder = c.args.folder.now in
    let ps = c.in_ok-joined.joined in
    let paths = c.in_ok-packages.paths in
    let cards : map rc_value c.deref.result.now ≡ cards_of entries = ap (map rc_value) c.deref.ensures.value ∙ c.in_ok-packages.ensures.packages in
    let joins : or_refused Packages (join_answer (cards_of entries)) ≡ Ok ps = ap (λ xs. or_refused Packages (join_answer xs)) (sym cards) ∙ c.in_ok-joined.ensures.answer in
    let there = subst (AllByRecursion (There entries)) (sym (joined_is Packages (cards_of entries) ps joins)) (joined_paths entries) in
    let fits = paths_short paths entries folder ps c.in_ok-packages.ensures.paths small short there in
    let steps = sym (same_steps f known folder paths entries ps c.in_ok-packages.ensures.paths) ∙ c.in_ok-list.ensures.told catalogue fits f told in
    let is = check_fault f known (list_in (option_copied c.args.repo)) folder entries c.in_err-check.field-0.0 ps c.in_ok-list.list joins steps c.in_err-check.ensures.answer in
    told_err c.from_residual-in_err-check.result e.0 c.in_err-check.field-0.0 (entries_arrive f c.args.known.now (list_in (option_copied c.args.repo)) c.args.folder.now entries) e.1 e.2 is

pub returns-in_err-check-clause-log : goal.returns-in_err-check-clause-log
returns-in_err-check-clause-log g c =
    let within = members c.args.entries.items (map rc_value c.deref.result.now) c.in_ok-joined.joined (ap (map rc_value) c.deref.ensures.value ∙ c.in_ok-packages.ensures.packages) c.in_ok-joined.ensures.answer in
    GoesOn-map _ _ _ _ c.in_ok-list.ensures.log (λ l a h. all_fails _ _ _ (Ok c.in_ok-list.list) c.from_residual-in_err-check.result _ _ l a c.from_residual-in_err-check.ensures.0 (all_among _ _ _ _ within (Ok c.in_ok-list.list) _ _ l a h))

pub returns-in_err-list-clause-log : goal.returns-in_err-list-clause-log
returns-in_err-list-clause-log g c =
    let within = members c.args.entries.items (map rc_value c.deref.result.now) c.in_ok-joined.joined (ap (map rc_value) c.deref.ensures.value ∙ c.in_ok-packages.ensures.packages) c.in_ok-joined.ensures.answer in
    GoesOn-map _ _ _ _ c.take_all.ensures.log (λ l a h. all_fails _ _ _ c.take_all.result c.from_residual-in_err-list.result _ _ l a c.from_residual-in_err-list.ensures.0 (all_among _ _ _ _ within c.take_all.result _ _ l a h))

pub returns-clause-log : goal.returns-clause-log
returns-clause-log g c =
    let within = members c.args.entries.items (map rc_value c.deref.result.now) c.in_ok-joined.joined (ap (map rc_value) c.deref.ensures.value ∙ c.in_ok-packages.ensures.packages) c.in_ok-joined.ensures.answer in
    GoesOn-map _ _ _ _ c.in_ok-list.ensures.log (λ l a h. all_among _ _ _ _ within (Ok c.in_ok-list.list) _ _ l a h)

pub returns-clause-told : goal.returns-clause-told
returns-clause-told g c catalogue small short f told =
    let entries = c.args.entries.items in
    let known = c.args.known.now in
    let folder = c.args.folder.now in
    let ps = c.in_ok-joined.joined in
    let paths = c.in_ok-packages.paths in
    let cards : map rc_value c.deref.result.now ≡ cards_of entries = ap (map rc_value) c.deref.ensures.value ∙ c.in_ok-packages.ensures.packages in
    let joins : or_refused Packages (join_answer (cards_of entries)) ≡ Ok ps = ap (λ xs. or_refused Packages (join_answer xs)) (sym cards) ∙ c.in_ok-joined.ensures.answer in
    let there = subst (AllByRecursion (There entries)) (sym (joined_is Packages (cards_of entries) ps joins)) (joined_paths entries) in
    let fits = paths_short paths entries folder ps c.in_ok-packages.ensures.paths small short there in
    let steps = sym (same_steps f known folder paths entries ps c.in_ok-packages.ensures.paths) ∙ c.in_ok-list.ensures.told catalogue fits f told in
    all_ok f known (list_in (option_copied c.args.repo)) folder entries ps c.in_ok-list.list joins steps c.in_ok-check.ensures.answer

pub returns-clause-fits : goal.returns-clause-fits
returns-clause-fits g c catalogue packages =
    let entries = c.args.entries.items in
    let ps = c.in_ok-joined.joined in
    let cards : map rc_value c.deref.result.now ≡ cards_of entries = ap (map rc_value) c.deref.ensures.value ∙ c.in_ok-packages.ensures.packages in
    let joins : or_refused Packages (join_answer (cards_of entries)) ≡ Ok ps = ap (λ xs. or_refused Packages (join_answer xs)) (sym cards) ∙ c.in_ok-joined.ensures.answer in
    let is = joined_is Packages (cards_of entries) ps joins in
    record {
      packages = ps;
      ascending = subst (IsAscending package_cmp) (sym is) (joined_ascending (cards_of entries));
      taken = c.in_ok-list.ensures.taken catalogue (subst (All (λ (p : Card). IsPackage p × IsSaid p.said)) (sym is) (joined_good entries packages));
      checked = c.in_ok-check.ensures.answer;
    }

pub returns-in_err-joined-clause-mismatch : goal.returns-in_err-joined-clause-mismatch
returns-in_err-joined-clause-mismatch g c =
    let e = err_from_is_err_and c.from_residual-in_err-joined.result c.from_residual-in_err-joined.ensures.1 in
    let entries = c.args.entries.items in
    handed_on c.from_residual-in_err-joined.result (FaultOfFiles c.args.folder.now (path_of entries) (cards_of entries)) e.0 c.in_err-joined.field-0.0 e.1 e.2
    (other_files c.args.folder.now (path_of entries) (cards_of entries) c.in_err-joined.field-0.0 c.in_err-joined.ensures.other)

pub returns-in_err-list-clause-mismatch : goal.returns-in_err-list-clause-mismatch
returns-in_err-list-clause-mismatch g c =
    let e = err_from_is_err_and c.from_residual-in_err-list.result c.from_residual-in_err-list.ensures.1 in
    let entries = c.args.entries.items in
    let folder = c.args.folder.now in
    let fault = c.in_err-list.field-0.0 in
    let paths = c.in_ok-packages.paths in
    let within = members entries (map rc_value c.deref.result.now) c.in_ok-joined.joined (ap (map rc_value) c.deref.ensures.value ∙ c.in_ok-packages.ensures.packages) c.in_ok-joined.ensures.answer in
    let same : path_at paths ≡ path_of entries = λ i p. unwrap_or (c.in_ok-packages.ensures.paths p i) [] in
    handed_on c.from_residual-in_err-list.result (FaultOfFiles folder (path_of entries) (cards_of entries)) e.0 fault e.1 e.2
    (files_among folder (path_of entries) c.in_ok-joined.joined (cards_of entries) fault within (subst (λ (path : Card → Path). FaultOfFiles folder path c.in_ok-joined.joined fault) same c.in_err-list.ensures.mismatch))

pub returns-in_err-check-clause-mismatch : goal.returns-in_err-check-clause-mismatch
returns-in_err-check-clause-mismatch g c =
    let e = err_from_is_err_and c.from_residual-in_err-check.result c.from_residual-in_err-check.ensures.1 in
    let entries = c.args.entries.items in
    handed_on c.from_residual-in_err-check.result (FaultOfFiles c.args.folder.now (path_of entries) (cards_of entries)) e.0 c.in_err-check.field-0.0 e.1 e.2
    (other_files c.args.folder.now (path_of entries) (cards_of entries) c.in_err-check.field-0.0 c.in_err-check.ensures.other)
