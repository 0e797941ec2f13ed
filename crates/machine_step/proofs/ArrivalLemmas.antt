-- What is refused of an arrival.
use Rattle.std.proofs.Common.{◌≡◌, ℕ, Bool, true, false, nat_lt, List, [], ◌∷◌, length, Option, Some, None, Result, Ok, Err, IfErr, refl, sym, subst}
use Rattle.std.specs.Bool.{if◌then◌else◌}
use Rattle.ap_text.specs.Paths.{below_folder}
use Rattle.ap_host.specs.Disk.{Path, Content, Files}
use Rattle.package_core.specs.Card.{Card}
use Rattle.digest_set.specs.declared.facts.Digests.{Digests}
use Rattle.digest_set.specs.declared.facts.What.{What}
use Rattle.digest_set.specs.Difference.{difference}
use Rattle.digest_set.specs.Facts.{digests_of}
use Rattle.package_list.specs.declared.fault.ListFault.{ListFault}
use Rattle.package_list.specs.declared.fault.ListFault.TheVariants as list_faults
use Rattle.package_list.specs.Answers.{append_answer, join_answer}
use Rattle.package_list.specs.Lists.{union}
use Rattle.machine_state.specs.declared.arrived.Arrived.{Arrived}
use Rattle.machine_state.specs.declared.arrived.Arrived.TheVariants as arrivals
use Rattle.machine_state.specs.declared.limit.Limit.{Limit as LimitKind}
use Rattle.machine_state.specs.declared.limit.Limit.TheVariants.{Packages, Known, Catalogue, Index, File}
use Rattle.machine_state.specs.declared.refusal.Refusal.{Refusal}
use Rattle.machine_state.specs.declared.refusal.Refusal.TheVariants.{Limit}
use Rattle.machine_state.specs.Limits.{limit_number}
use Rattle.machine_state.specs.State.{text_length}
use Rattle.machine_state.specs.Values.{StateView}
use Rattle.package_intake.specs.Index.{IndexEntry, cards_of, path_of, index_bytes, or_malformed}
use Rattle.package_intake.specs.Taking.{facts_of, agreed, of_known_or_file, taken_file, each_taken}
use Rattle.package_intake.specs.Steps.{and_then, or_refused}
use Rattle.package_intake.specs.Catalogue.{within_catalogue}
use Rattle.package_intake.specs.Faults.{IsInputLimit, IsInputRefusal}
use Rattle.package_intake.specs.Arrival.{list_of, index_path, check_answer, fitting, entries_arrive, BytesArrive, Arrives}
use Rattle.package_intake.specs.Answers.{IsArrival}

-- ---- what is refused of an arrival is of its steps
abbrev Fine : {X : Type 0} → Result X Refusal → Type 0
Fine r = IfErr r IsInputRefusal

then_fine : {X Y : Type 0} (r : Result X Refusal) (f : X → Result Y Refusal) → Fine r → ((x : X) → Fine (f x)) → Fine (and_then r f)
then_fine (Ok x) f a b = b x
then_fine (Err e) f a b = a

listed_fine : {X : Type 0} (limit : LimitKind) → IsInputLimit limit → (r : Result X ListFault) → Fine (or_refused limit r)
listed_fine limit is (Ok x) = tt
listed_fine limit is (Err (list_faults.Conflict t)) = tt
listed_fine limit is (Err list_faults.Full) = is
listed_fine limit is (Err list_faults.OutOfMemory) = is

limited_fine : {X : Type 0} (b : Bool) (limit : LimitKind) → IsInputLimit limit → (r : Result X Refusal) → Fine r → Fine (if b then Err (Limit limit) else r)
limited_fine true limit is r fine = is
limited_fine false limit is r fine = fine

bytes_fine : (path : Path) (x : Content) → Fine (index_bytes path x)
bytes_fine path None = tt
bytes_fine path (Some bytes) = limited_fine (nat_lt (limit_number Index) (length bytes)) Index tt (Ok bytes) tt

malformed_fine : {X : Type 0} (path : Path) (r : Result X ℕ) → Fine (or_malformed path r)
malformed_fine path (Ok x) = tt
malformed_fine path (Err line) = tt

agreed_fine : (path : Path) (p : Card) (found : Digests) (o : Option (What × List ℕ × List ℕ)) → difference p.said found ≡ o → Fine (agreed path p found o)
agreed_fine path p found None e = tt
agreed_fine path p found (Some (what, said, other)) e = (p.said, found, e)

file_fine : (path : Path) (p : Card) (o : Option Card) (x : Content) → Fine (of_known_or_file path p o x)
file_fine path p (Some q) x = agreed_fine path p (facts_of q) (difference p.said (facts_of q)) refl
file_fine path p None None = tt
file_fine path p None (Some bytes) = agreed_fine path p (digests_of bytes) (difference p.said (digests_of bytes)) refl

taken_fine : (files : Files) (known : List Card) (path : Path) (p : Card) → Fine (taken_file files known path p)
unfolding taken_file
taken_fine files known path p = limited_fine (nat_lt (limit_number File) p.said.size) File tt _ (then_fine (of_known_or_file path p _ (files path)) _ (file_fine path p _ (files path)) (λ made. tt))

each_fine : (take : Card → Result Card Refusal) → ((p : Card) → Fine (take p)) → (ps : List Card) → Fine (each_taken take ps)
each_fine take fine [] = tt
each_fine take fine (p ∷ ps) = then_fine (take p) _ (fine p) (λ q. then_fine (each_taken take ps) _ (each_fine take fine ps) (λ qs. tt))

within_fine : (known : List Card) → Fine (within_catalogue known)
within_fine known = then_fine {X = List Card} {Y = Unit {0}} (if nat_lt (limit_number Known) (length known) then Err (Limit Known) else Ok known) (λ all. if nat_lt (limit_number Catalogue) (text_length all) then Err (Limit Catalogue) else Ok tt)
    (limited_fine {X = List Card} (nat_lt (limit_number Known) (length known)) Known tt (Ok known) tt)
    (λ all. limited_fine {X = Unit {0}} (nat_lt (limit_number Catalogue) (text_length all)) Catalogue tt (Ok tt) tt)

check_fine : (known own list : List Card) → Fine (check_answer known own list)
unfolding check_answer
check_fine known own list = then_fine {X = Unit {0}} {Y = Unit {0}} (or_refused Packages (append_answer own list)) (λ x. within_catalogue (union known list)) (listed_fine {X = Unit {0}} Packages tt (append_answer own list)) (λ x. within_fine (union known list))

fitting_fine : (known own list : List Card) → Fine (fitting known own list)
fitting_fine known own list = then_fine {X = Unit {0}} {Y = List Card} (check_answer known own list) (λ x. Ok list) (check_fine known own list) (λ x. tt)

arrive_fine : (files : Files) (known own : List Card) (folder : Path) (entries : List IndexEntry) → Fine (entries_arrive files known own folder entries)
unfolding entries_arrive
arrive_fine files known own folder entries =
    let take = λ (p : Card). taken_file files known (below_folder folder (path_of entries p)) p in
    then_fine {X = List Card} {Y = List Card} (or_refused Packages (join_answer (cards_of entries))) (λ joined. and_then (each_taken take joined) (λ list. fitting known own list)) (listed_fine {X = List Card} Packages tt (join_answer (cards_of entries)))
    (λ joined. then_fine {X = List Card} {Y = List Card} (each_taken take joined) (λ list. fitting known own list) (each_fine take (λ p. taken_fine files known (below_folder folder (path_of entries p)) p) joined) (λ list. fitting_fine known own list))

arrives_refused : (files : Files) (known own : List Card) (folder : Path) (r : Refusal) → Arrives files known own folder (Err r) → IsInputRefusal r
unfolding Arrives
arrives_refused files known own folder r arrives = go (index_bytes (index_path folder) (files (index_path folder))) (bytes_fine (index_path folder) (files (index_path folder))) arrives
  where
    go : (b : Result (List ℕ) Refusal) → Fine b → BytesArrive files known own folder b (Err r) → IsInputRefusal r
    go (Ok bytes) fine w = subst (Fine {X = List Card}) (sym w.2) (then_fine {X = List IndexEntry} {Y = List Card} (or_malformed (index_path folder) w.0) (λ entries. entries_arrive files known own folder entries) (malformed_fine {X = List IndexEntry} (index_path folder) w.0) (λ entries. arrive_fine files known own folder entries))
    go (Err e) fine w = subst (Fine {X = List Card}) (sym w) fine

pub arrival_refused : (input : Option Files) (s : StateView) (name : List ℕ) (folder : Path) (r : Refusal) → IsArrival input s name folder (arrivals.Refused r) → IsInputRefusal r
arrival_refused None s name folder r is = is
arrival_refused (Some files) s name folder r is = arrives_refused files s.known (list_of s name) folder r is
