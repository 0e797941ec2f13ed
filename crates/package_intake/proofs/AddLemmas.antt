-- A folder arrives: what is told of it, and that it fits.
use Rattle.std.proofs.Common.{◌≡◌, inl, inr, ℕ, ◌≤◌, Bool, true, false, cond, List, [], length, Option, Some, None, Result, Ok, Err, refl, sym, ap, ◌∙◌, subst, nat_lt, ltb-false}
use Rattle.std.specs.Result.{IsErr}
use Rattle.ap_host.specs.declared.host.Op.{Op}
use Rattle.ap_host.specs.Disk.{Path, Files, Log}
use Rattle.stage_file.specs.Stage.{StageState}
use Rattle.hash_pool.specs.Growth.{targets}
use Rattle.std.specs.List.{AllByRecursion}
use Rattle.package_core.specs.Card.{Card}
use Rattle.package_list.specs.declared.fault.ListFault.{ListFault}
use Rattle.package_list.specs.Lists.{union}
use Rattle.package_list.specs.Answers.{append_answer}
use Rattle.machine_state.specs.declared.limit.Limit.TheVariants.{Packages, Known, Catalogue}
use Rattle.machine_state.specs.declared.refusal.Refusal.{Refusal}
use Rattle.machine_state.specs.declared.refusal.Refusal.TheVariants.{InputMismatch, Limit}
use Rattle.machine_state.specs.declared.arrived.Arrived.{Arrived}
use Rattle.machine_state.specs.declared.arrived.Arrived.TheVariants as arrivals
use Rattle.machine_state.specs.declared.arrived.UpdateFault.{UpdateFault}
use Rattle.machine_state.specs.declared.arrived.UpdateFault.TheVariants as faults
use Rattle.machine_state.specs.Limits.{limit_number}
use Rattle.machine_state.specs.State.{IsCatalogue, IsNamedList, Valid, text_length}
use Rattle.machine_state.specs.Values.{StateView}
use Rattle.package_intake.specs.Index.{EndsEarlyIf, IndexEntry, OfIndex, cards_of, path_of}
use Rattle.package_intake.specs.Arrival.{Arrives, BytesArrive, check_answer, entries_arrive, index_path, list_of}
use Rattle.package_intake.specs.Steps.{or_refused}
use Rattle.package_intake.specs.Catalogue.{within_catalogue, known_answer}
use Rattle.index_text.specs.Index.{ArePackages}
use Rattle.package_intake.specs.Fits.{FitsIn, FitsWith, Fitting}
use Rattle.package_intake.specs.Steps.{FaultGives}
use Rattle.package_intake.specs.Faults.{FaultOfFiles, IsAnyFault, IsInputFault, IsOfFiles}
use Rattle.package_intake.specs.Answers.{Adds, AddsNamed, AreOfIndex, Comes, FaultOfFolder, IsArrival, IsListed, IsOfFolder, IsUnlisted}
use Rattle.package_intake.specs.Additions.{AddsAll, IsFileOf}
use Rattle.package_intake.proofs.FitLemmas.{fits_state, own_named, taken_with}
use Rattle.package_intake.proofs.TakenLemmas.{went_on}
use Rattle.package_intake.proofs.LogLemmas.{all_nothing}

module _ (files : Files) (known own : List Card) (folder : Path) where
  -- an error is what arrives
  abbrev pub FaultArrives : UpdateFault → Type 0
  FaultArrives (faults.Refused refusal) = Arrives files known own folder (Err refusal)
  FaultArrives faults.HostFault = Unit {0}
  FaultArrives faults.InboxFault = Unit {0}
  FaultArrives faults.OutOfMemory = Unit {0}

  pub listed_arrives : (entries : List IndexEntry) (arrived : Result (List Card) Refusal) → IsListed files folder entries → entries_arrive files known own folder entries ≡ arrived → Arrives files known own folder arrived
  unfolding Arrives
  listed_arrives entries arrived l e = subst (λ r. BytesArrive files known own folder r arrived) (sym l.there) (Ok entries, l.lists, sym e)

  pub listed_fault : (entries : List IndexEntry) (fault : UpdateFault) → IsListed files folder entries → FaultGives fault (entries_arrive files known own folder entries) → FaultArrives fault
  listed_fault entries (faults.Refused refusal) l e = listed_arrives entries (Err refusal) l e
  listed_fault entries faults.HostFault l e = tt
  listed_fault entries faults.InboxFault l e = tt
  listed_fault entries faults.OutOfMemory l e = tt

  unlisted_refused : (refusal : Refusal) → IsUnlisted files folder (faults.Refused refusal) → Arrives files known own folder (Err refusal)
  unfolding Arrives
  unlisted_refused refusal (inl e) = subst (λ r. BytesArrive files known own folder r (Err refusal)) (sym e) refl
  unlisted_refused refusal (inr (bytes, there, what)) = subst (λ r. BytesArrive files known own folder r (Err refusal)) (sym there) (Err what.0, what.1, ap Err what.2)

  pub unlisted_fault : (fault : UpdateFault) → IsUnlisted files folder fault → FaultArrives fault
  unlisted_fault (faults.Refused refusal) u = unlisted_refused refusal u
  unlisted_fault faults.HostFault u = tt
  unlisted_fault faults.InboxFault u = tt
  unlisted_fault faults.OutOfMemory u = tt

-- ---- on any inbox
pub fault_comes : (map : Option Files) (state : StateView) (name : List ℕ) (folder : Path) (r : Result Arrived UpdateFault) (x fault : UpdateFault) → r ≡ Err x → x ≡ fault → IsAnyFault fault → ((f : Files) → map ≡ Some f → FaultArrives f state.known (list_of state name) folder fault) → Comes map state name folder r
fault_comes map state name folder r x fault e s any h = subst (Comes map state name folder) (sym (e ∙ ap Err s)) (told map fault any h)
  where
    told : (m : Option Files) (fault : UpdateFault) → IsAnyFault fault → ((f : Files) → m ≡ Some f → FaultArrives f state.known (list_of state name) folder fault) → Comes m state name folder (Err fault)
    told (Some f) (faults.Refused refusal) any h = h f refl
    told None (faults.Refused refusal) any h = any
    told m faults.HostFault any h = tt
    told m faults.InboxFault any h = tt
    told m faults.OutOfMemory any h = tt

pub list_comes : (map : Option Files) (state : StateView) (name : List ℕ) (folder : Path) (list : List Card) (date : List ℕ) → date ≡ [] → FitsIn state name list → ((f : Files) → map ≡ Some f → Arrives f state.known (list_of state name) folder (Ok list)) → IsArrival map state name folder (arrivals.List list date)
list_comes (Some f) state name folder list date e fits h = (e, h f refl)
list_comes None state name folder list date e fits h = (e, fits)

-- ---- what was checked fits
record Checked (known own list : List Card) : Type 0 where
  appended : append_answer own list ≡ Ok tt
  few : length (union known list) ≤ limit_number Known
  texts : text_length (union known list) ≤ limit_number Catalogue

fine : (r : Result (Unit {0}) ListFault) → or_refused Packages r ≡ Ok tt → r ≡ Ok tt
fine (Ok u) h = refl
fine (Err e) h = cc

abbrev counted : List Card → Bool → Result (List Card) Refusal
counted all b = cond b (Err (Limit Known)) (Ok all)

abbrev measured : Bool → Result (Unit {0}) Refusal
measured b = cond b (Err (Limit Catalogue)) (Ok tt)

by_count : (all u : List Card) (b : Bool) → nat_lt (limit_number Known) (length all) ≡ b → counted all b ≡ Ok u → (length all ≤ limit_number Known) × (u ≡ all)
by_count all u true e g = cc
by_count all u false e g = (ltb-false (limit_number Known) (length all) e, (let s : all ≡ u = cc in sym s))

by_length : (all : List Card) (b : Bool) → nat_lt (limit_number Catalogue) (text_length all) ≡ b → measured b ≡ Ok tt → text_length all ≤ limit_number Catalogue
by_length all true e g = cc
by_length all false e g = ltb-false (limit_number Catalogue) (text_length all) e

-- what keeps within the catalogue
pub within : (all : List Card) → within_catalogue all ≡ Ok tt → (length all ≤ limit_number Known) × (text_length all ≤ limit_number Catalogue)
within all h =
    let on = went_on (known_answer all) (λ xs. measured (nat_lt (limit_number Catalogue) (text_length xs))) tt h in
    let few = by_count all on.0 (nat_lt (limit_number Known) (length all)) refl on.1 in
    (few.0, subst (λ (x : List Card). text_length x ≤ limit_number Catalogue) few.1 (by_length on.0 (nat_lt (limit_number Catalogue) (text_length on.0)) refl on.2))

checks : (known own list : List Card) → check_answer known own list ≡ Ok tt → Checked known own list
unfolding check_answer
checks known own list h =
    let first = went_on (or_refused Packages (append_answer own list)) (λ u. within_catalogue (union known list)) tt h in
    let small = within (union known list) first.2 in
    record { appended = fine (append_answer own list) first.1; few = small.0; texts = small.1 }

-- with what is known and a list of one's own
pub fitting_with : (known own list : List Card) → Fitting known own list → IsCatalogue known → IsNamedList known own → FitsWith known own list
fitting_with known own list f k n =
    let c = checks known own list f.checked in taken_with known f.packages own list k n f.ascending f.taken c.appended c.few c.texts

-- and so in a state
pub fitting_fits : (state : StateView) (name : List ℕ) (own list : List Card) → Valid state → own ≡ list_of state name → Fitting state.known own list → FitsIn state name list
fitting_fits state name own list v e f =
    let named = subst (IsNamedList state.known) (sym e) (own_named state name v) in
    fits_state state name list v (subst (λ (x : List Card). FitsWith state.known x list) e (fitting_with state.known own list f v.known named))

-- ---- the log
module _ (AreNames : List Path → Type 0) (map : Option Files) (packages known : List Card) (named : (paths : List Path) → AllByRecursion (IsFileOf packages) paths → AreNames paths) where
  pub named_list : (list : List Card) (date : List ℕ) (s t : StageState) (l : Log) (a : List Op) → AddsAll map packages known (Ok list) s t l a → AddsNamed AreNames map known (Ok (arrivals.List list date)) s t l a
  named_list list date s t l a h = record { grows = h.grows; marked = h.marked; step = h.step; fills = h.fills; names = inr (named (targets a) h.names); bodies = λ f told apart all digests. h.bodies f told apart digests all }

  pub named_fails : (r : Result (List Card) UpdateFault) (out : Result Arrived UpdateFault) (s t : StageState) (l : Log) (a : List Op) → IsErr out → AddsAll map packages known r s t l a → AddsNamed AreNames map known out s t l a
  named_fails r (Ok x) s t l a e h = absurd (let no : false ≡ true = e in cc)
  named_fails r (Err x) s t l a e h = record { grows = h.grows; marked = h.marked; step = h.step; fills = h.fills; names = inr (named (targets a) h.names); bodies = tt }

pub named_nothing : (AreNames : List Path → Type 0) (map : Option Files) (known : List Card) (out : Result Arrived UpdateFault) (s : StageState) (l : Log) → IsErr out → AddsNamed AreNames map known out s s l []
named_nothing AreNames map known (Ok x) s l e = absurd (let no : false ≡ true = e in cc)
named_nothing AreNames map known (Err x) s l e =
    let h = all_nothing map [] known (Err faults.OutOfMemory) s l refl in
    record { grows = h.grows; marked = h.marked; step = h.step; fills = h.fills; names = inl refl; bodies = tt }

-- of a folder
module _ (map : Option Files) (folder : Path) (entries : List IndexEntry) (packages : ArePackages entries) (listed : length folder ≤ 200 → (f : Files) → map ≡ Some f → IsListed f folder entries) (known : List Card) where
  pub adds_list : (list : List Card) (date : List ℕ) (s t : StageState) (l : Log) (a : List Op) → AddsAll map (cards_of entries) known (Ok list) s t l a → Adds map folder known (Ok (arrivals.List list date)) s t l a
  adds_list = named_list (AreOfIndex map folder) map (cards_of entries) known (λ paths n. (entries, packages, listed, n))

  pub adds_fails : (r : Result (List Card) UpdateFault) (out : Result Arrived UpdateFault) (s t : StageState) (l : Log) (a : List Op) → IsErr out → AddsAll map (cards_of entries) known r s t l a → Adds map folder known out s t l a
  adds_fails = named_fails (AreOfIndex map folder) map (cards_of entries) known (λ paths n. (entries, packages, listed, n))

pub adds_nothing : (map : Option Files) (folder : Path) (known : List Card) (out : Result Arrived UpdateFault) (s : StageState) (l : Log) → IsErr out → Adds map folder known out s s l []
adds_nothing map folder = named_nothing (AreOfIndex map folder) map

pub of_input : (fault : UpdateFault) → IsInputFault fault → IsAnyFault fault
of_input (faults.Refused refusal) h = h
of_input faults.HostFault h = absurd h
of_input faults.InboxFault h = tt
of_input faults.OutOfMemory h = tt

-- ---- of what a mismatch is told
pub early_folder : (map : Option Files) (folder : Path) (fault : UpdateFault) → OfIndex (index_path folder) fault → FaultOfFolder map folder fault
early_folder map folder (faults.Refused refusal) h = by_refusal refusal h
  where
    by_refusal : (r : Refusal) → EndsEarlyIf (index_path folder) r → IsOfFolder map folder r
    by_refusal (InputMismatch at what said found) h = inl h
    by_refusal r h = tt
early_folder map folder faults.HostFault h = tt
early_folder map folder faults.InboxFault h = tt
early_folder map folder faults.OutOfMemory h = tt

pub files_folder : (map : Option Files) (folder : Path) (entries : List IndexEntry) (fault : UpdateFault) → ArePackages entries → (length folder ≤ 200 → (f : Files) → map ≡ Some f → IsListed f folder entries) → FaultOfFiles folder (path_of entries) (cards_of entries) fault → FaultOfFolder map folder fault
files_folder map folder entries (faults.Refused refusal) packages listed h = by_refusal refusal h
  where
    by_refusal : (r : Refusal) → IsOfFiles folder (path_of entries) (cards_of entries) r → IsOfFolder map folder r
    by_refusal (InputMismatch at what said found) h = inr (entries, packages, listed, h)
    by_refusal r h = tt
files_folder map folder entries faults.HostFault packages listed h = tt
files_folder map folder entries faults.InboxFault packages listed h = tt
files_folder map folder entries faults.OutOfMemory packages listed h = tt
