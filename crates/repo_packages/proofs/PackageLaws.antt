-- Laws of the commands on packages.
use Rattle.std.proofs.Common.{◌≡◌, ◌≢◌, ◌⊎◌, ℕ, List, [], Option, Some, None, Bool, true, false, Result, Ok, Err, refl, sym, subst, inl, inr, unwrap_or}
use Rattle.std.specs.List.{Contains}
use Rattle.std.proofs.lemmas.List.Elements.{All-contains_itself}
use Rattle.ap_host.specs.Disk.{Files}
use Rattle.command_value.specs.Plain.{PlainFollow}
use Rattle.package_core.specs.Card.{Card}
use Rattle.package_list.specs.declared.fault.ListFault.{ListFault}
use Rattle.package_list.specs.declared.fault.ListFault.TheVariants as list_faults
use Rattle.package_list.specs.Answers.{append_answer}
use Rattle.package_list.specs.Lists.{union, without}
use Rattle.package_intake.specs.Steps.{or_refused}
use Rattle.machine_state.specs.declared.limit.Limit.TheVariants.{Packages}
use Rattle.machine_state.specs.declared.refusal.Refusal.{Refusal}
use Rattle.machine_state.specs.declared.arrived.Arrived.{Arrived}
use Rattle.machine_state.specs.declared.arrived.Arrived.TheVariants as arrivals
use Rattle.machine_state.specs.Lists.{IsNamedList}
use Rattle.machine_state.specs.State.{Valid}
use Rattle.machine_state.specs.Values.{StateView}
use Rattle.machine_state.proofs.ListLemmas.{named_kept, named_union, union_all}
use Rattle.machine_state.proofs.ValidLemmas.{valid_listed}
use Rattle.step_model.specs.declared.reading.Reading.TheVariants as readings
use Rattle.step_model.specs.Case.{Came, asking_case, or_else}
use Rattle.step_model.specs.Lawful.{CommandLaw, IfChanges, IfRefuses, IsFrom, IsLawful}
use Rattle.step_model.specs.Names.{bad_name, bad_folder}
use Rattle.step_model.proofs.OwnLemmas.{Own, OwnOr, own_asking, own_else, own_folder, own_name}
use Rattle.step_model.proofs.StepLemmas.{from_known}
use Rattle.package_intake.specs.Answers.{IsArrival}
use Rattle.package_intake.specs.Arrival.{Arrives, list_of}
use Rattle.package_intake.specs.Fits.{FitsIn}
use Rattle.package_intake.proofs.FitLemmas.{own_named}
use Rattle.mirror_lists.specs.Mirrors.{fetched_list_of, never_updated}
use Rattle.mirror_lists.proofs.MirrorLemmas.{fetched_list_named, own_updated}
use Rattle.package_choice.proofs.ChoiceLemmas.{kept_for}
use Rattle.repo_packages.specs.PackageCases.{KeepsTo, MayArrive, addition_case, bad_import, bad_repo, bad_transfer, came_or, chosen_for, chosen_of, copy_case, copying, import_case, imported, joining, listed, move_case, moving, pair_case, removal, removal_case, taken_in, unknown}
use Rattle.repo_packages.proofs.OwnLemmas.{added_some, dry_run_some, front_some, own_import, own_repo, own_transfer, own_unknown, removed_some}
use Rattle.repo_packages.proofs.ReadLemmas.{addition_reads, import_reads, pair_read, removal_reads}

-- ---- what arrives

-- the law of arrivals
abbrev pub Fit : Type 0
Fit = (files : Files) (state : StateView) (name : List ℕ) (folder : List ℕ) (list : List Card) → Valid state → Arrives files state.known (list_of state name) folder (Ok list) → FitsIn state name list

-- a list that arrives fits
pub list_fits : Fit → (files : Option Files) (state : StateView) (name folder : List ℕ) (list : List Card) (date : List ℕ) → Valid state → IsArrival files state name folder (arrivals.List list date) → FitsIn state name list
list_fits fit None state name folder list date v h = h.1
list_fits fit (Some f) state name folder list date v h = fit f state name folder list v h.1

taken_valid : Fit → (inbox : Option Files) (state : StateView) (name folder : List ℕ) (arrived : Arrived) → Valid state → IsArrival inbox state name folder arrived → IfChanges (taken_in state name arrived) (λ reply new. Valid new)
taken_valid fit inbox state name folder (arrivals.List list date) v h = (list_fits fit inbox state name folder list date v h).valid
taken_valid fit inbox state name folder (arrivals.Refused refusal) v h = tt
taken_valid fit inbox state name folder arrivals.Nothing v h = tt

taken_says : (state : StateView) (name : List ℕ) (arrived : Arrived) → IfChanges (taken_in state name arrived) (λ reply new. reply ≢ [])
taken_says state name (arrivals.List list date) = added_some name _ _
taken_says state name (arrivals.Refused refusal) = tt
taken_says state name arrivals.Nothing = tt

taken_knows : (state : StateView) (name : List ℕ) (arrived : Arrived) → IfChanges (taken_in state name arrived) (λ reply new. IsFrom state arrived new)
taken_knows state name (arrivals.List list date) =
    (union_all (λ p. Contains state.known p ⊎ Contains list p) state.known list (λ k d l. inl (All-contains_itself state.known k d l)) (λ k d l. inr (All-contains_itself list k d l)), λ none. none)
taken_knows state name (arrivals.Refused refusal) = tt
taken_knows state name arrivals.Nothing = tt

taken_refuses : (inbox : Option Files) (state : StateView) (name folder : List ℕ) (arrived : Arrived) → IsArrival inbox state name folder arrived → IfRefuses (taken_in state name arrived) (OwnOr arrived)
taken_refuses inbox state name folder (arrivals.List list date) h = tt
taken_refuses inbox state name folder (arrivals.Refused refusal) h = inr refl
taken_refuses None state name folder arrivals.Nothing h = absurd h
taken_refuses (Some files) state name folder arrivals.Nothing h = absurd h

arrival_law : Fit → (inbox : Option Files) (state : StateView) (name folder : List ℕ) → IsLawful state (λ arrived. MayArrive inbox state (addition_case state name folder).reads arrived) (addition_case state name folder)
unfolding addition_case
arrival_law fit inbox state name folder = record {
  valid = λ v early late arrived may. taken_valid fit inbox state name folder arrived v may;
  says = λ arrived. taken_says state name arrived;
  knows = λ arrived. taken_knows state name arrived;
  early =
      own_else (bad_name name) (or_else (bad_folder folder) (unknown state.repos name)) (own_name name)
      (own_else (bad_folder folder) (unknown state.repos name) (own_folder folder) (own_unknown state.repos name));
  late = tt;
  comes = λ arrived may. taken_refuses inbox state name folder arrived may;
}

-- ---- a removal

removal_valid : (state : StateView) (dry : Bool) (name : List ℕ) (gone : List Card) → Valid state → IfChanges (removal state dry name gone) (λ reply new. Valid new)
removal_valid state true name gone v = v
removal_valid state false name gone v = valid_listed state name (without (list_of state name) gone) (named_kept state.known (list_of state name) _ (own_named state name v)) v

removal_says : (state : StateView) (dry : Bool) (name : List ℕ) (gone : List Card) → IfChanges (removal state dry name gone) (λ reply new. reply ≢ [])
removal_says state true name gone = dry_run_some gone []
removal_says state false name gone = removed_some name _ _

removal_knows : (state : StateView) (dry : Bool) (name : List ℕ) (gone : List Card) (arrived : Arrived) → IfChanges (removal state dry name gone) (λ reply new. IsFrom state arrived new)
removal_knows state true name gone arrived = from_known state arrived
removal_knows state false name gone arrived = from_known state arrived

removal_refuses : (state : StateView) (dry : Bool) (name : List ℕ) (gone : List Card) (arrived : Arrived) → IfRefuses (removal state dry name gone) (OwnOr arrived)
removal_refuses state true name gone arrived = tt
removal_refuses state false name gone arrived = tt

asking_law : (state : StateView) (May : Arrived → Type 0) (name : List ℕ) (queries : List (List ℕ)) (dry : Bool) → IsLawful state May (asking_case (bad_repo state name) queries (removal state dry name (chosen_of state name queries)))
asking_law state May name queries dry = record {
  valid = λ v early late arrived may. removal_valid state dry name (chosen_of state name queries) v;
  says = λ arrived. removal_says state dry name (chosen_of state name queries);
  knows = λ arrived. removal_knows state dry name (chosen_of state name queries) arrived;
  early = own_asking (bad_repo state name) queries (removal state dry name (chosen_of state name queries)) (own_repo state name);
  late = tt;
  comes = λ arrived may. removal_refuses state dry name (chosen_of state name queries) arrived;
}

-- ---- packages that join

-- what may come where packages join a list
record Joins (state : StateView) (own more : List Card) (came : Came) : Type 0 where
  valid : Valid state → append_answer own more ≡ Ok tt → IfChanges came (λ reply new. Valid new)
  says : IfChanges came (λ reply new. reply ≢ [])
  knows : (arrived : Arrived) → IfChanges came (λ reply new. IsFrom state arrived new)
  refuses : (arrived : Arrived) → IfRefuses came (OwnOr arrived)

abbrev answered : Result (Unit {0}) ListFault → Came → Came
answered answer came = came_or (or_refused Packages answer) came

own_fault : (fault : ListFault) (arrived : Arrived) (came : Came) → IfRefuses (answered (Err fault) came) (OwnOr arrived)
own_fault (list_faults.Conflict triple) arrived came = inl tt
own_fault list_faults.Full arrived came = inl tt
own_fault list_faults.OutOfMemory arrived came = inl tt

-- a command of queries that makes packages join the destination, and is refused for some of this behind their patterns
joining_law : (state : StateView) (May : Arrived → Type 0) (early late : Option Refusal) (queries : List (List ℕ)) (destination : List ℕ) (more : List Card) (came : Came) → Own early → Own late → Joins state (list_of state destination) more came
    → IsLawful state May (record (asking_case early queries (joining state destination more came)) { late = late })
joining_law state May early late queries destination more came first last j = record {
  valid = λ v good fits arrived may. by_valid v answer refl;
  says = λ arrived. by_says answer;
  knows = λ arrived. by_knows arrived answer;
  early = own_asking early queries (joining state destination more came) first;
  late = last;
  comes = λ arrived may. by_refuses arrived answer;
}
  where
    answer : Result (Unit {0}) ListFault
    answer = append_answer (list_of state destination) more

    by_valid : Valid state → (r : Result (Unit {0}) ListFault) → append_answer (list_of state destination) more ≡ r → IfChanges (answered r came) (λ reply new. Valid new)
    by_valid v (Ok u) e = j.valid v e
    by_valid v (Err fault) e = tt

    by_says : (r : Result (Unit {0}) ListFault) → IfChanges (answered r came) (λ reply new. reply ≢ [])
    by_says (Ok u) = j.says
    by_says (Err fault) = tt

    by_knows : (arrived : Arrived) (r : Result (Unit {0}) ListFault) → IfChanges (answered r came) (λ reply new. IsFrom state arrived new)
    by_knows arrived (Ok u) = j.knows arrived
    by_knows arrived (Err fault) = tt

    by_refuses : (arrived : Arrived) (r : Result (Unit {0}) ListFault) → IfRefuses (answered r came) (OwnOr arrived)
    by_refuses arrived (Ok u) = j.refuses arrived
    by_refuses arrived (Err fault) = own_fault fault arrived came

pair_law : (state : StateView) (May : Arrived → Type 0) (deps : Option Bool) (follow : PlainFollow) (source destination : List ℕ) (queries : List (List ℕ)) (came : Came) → Joins state (list_of state destination) (chosen_for state deps follow source queries) came
    → IsLawful state May (asking_case (bad_transfer state follow source destination) queries (joining state destination (chosen_for state deps follow source queries) came))
pair_law state May deps follow source destination queries came j =
    joining_law state May (bad_transfer state follow source destination) None queries destination (chosen_for state deps follow source queries) came (own_transfer state follow source destination) tt j

-- what is chosen is a list by name
chosen_named : (state : StateView) (deps : Option Bool) (follow : PlainFollow) (name : List ℕ) (queries : List (List ℕ)) → Valid state → IsNamedList state.known (chosen_for state deps follow name queries)
chosen_named state deps follow name queries v =
    kept_for (IsNamedList state.known) (unwrap_or deps false) follow (list_of state name) queries (λ test. named_kept state.known (list_of state name) test (own_named state name v))

-- and so is the destination's list with it
joined_named : (state : StateView) (destination : List ℕ) (more : List Card) → Valid state → IsNamedList state.known more → append_answer (list_of state destination) more ≡ Ok tt → IsNamedList state.known (union (list_of state destination) more)
joined_named state destination more v named e = named_union state.known (list_of state destination) more (own_named state destination v) named e

copy_joins : (state : StateView) (destination : List ℕ) (more : List Card) (dry : Bool) → (Valid state → IsNamedList state.known more) → Joins state (list_of state destination) more (copying state dry destination more)
copy_joins state destination more true named = record { valid = λ v e. v; says = dry_run_some [] _; knows = λ arrived. from_known state arrived; refuses = λ arrived. tt }
copy_joins state destination more false named = record {
  valid = λ v e. valid_listed state destination (union (list_of state destination) more) (joined_named state destination more v (named v) e) v;
  says = added_some destination _ _;
  knows = λ arrived. from_known state arrived;
  refuses = λ arrived. tt;
}

move_joins : (state : StateView) (deps : Option Bool) (follow : PlainFollow) (source destination : List ℕ) (queries : List (List ℕ)) (dry : Bool) → Joins state (list_of state destination) (chosen_for state deps follow source queries) (moving state dry source destination (chosen_for state deps follow source queries))
move_joins state deps follow source destination queries true = record { valid = λ v e. v; says = dry_run_some _ _; knows = λ arrived. from_known state arrived; refuses = λ arrived. tt }
move_joins state deps follow source destination queries false = record {
  valid = λ v e.
      valid_listed (listed state destination (union (list_of state destination) (chosen_for state deps follow source queries))) source (without (list_of state source) (chosen_for state deps follow source queries))
      (named_kept state.known (list_of state source) _ (own_named state source v))
      (valid_listed state destination (union (list_of state destination) (chosen_for state deps follow source queries)) (joined_named state destination (chosen_for state deps follow source queries) v (chosen_named state deps follow source queries v) e) v);
  says = front_some _ _ (added_some destination _ _);
  knows = λ arrived. from_known state arrived;
  refuses = λ arrived. tt;
}

pair_lawful : (deps : Option Bool) (follow : PlainFollow) (source destination : List ℕ) (queries : List (List ℕ)) (coming : StateView → Came)
    → ((state : StateView) → Joins state (list_of state destination) (chosen_for state deps follow source queries) (coming state))
    → CommandLaw (λ state. pair_case state deps follow source destination queries (coming state)) MayArrive
pair_lawful deps follow source destination queries coming j = inr (λ inbox state. pair_law state (MayArrive inbox state readings.Nothing) deps follow source destination queries (coming state) (j state))

-- ---- an import

imported_named : (state : StateView) (deps : Option Bool) (follow : PlainFollow) (mirror : List ℕ) (queries : List (List ℕ)) → Valid state → IsNamedList state.known (imported state deps follow mirror queries)
imported_named state deps follow mirror queries v =
    kept_for (IsNamedList state.known) (unwrap_or deps false) follow (fetched_list_of state mirror) queries (λ test. named_kept state.known (fetched_list_of state mirror) test (fetched_list_named state mirror v))

-- ---- all of them, with what they read

pub add_law : Fit → (name folder : List ℕ) → KeepsTo (λ state. addition_case state name folder)
add_law fit name folder = (inr (λ inbox state. arrival_law fit inbox state name folder), addition_reads name folder)

pub remove_law : (dry : Option Bool) (name : List ℕ) (queries : List (List ℕ)) → KeepsTo (λ state. removal_case state dry name queries)
unfolding removal_case
remove_law dry name queries = (inr (λ inbox state. asking_law state _ name queries (unwrap_or dry false)), removal_reads dry name queries)

pub copy_law : (dry deps : Option Bool) (follow : PlainFollow) (source destination : List ℕ) (queries : List (List ℕ)) → KeepsTo (λ state. copy_case state dry deps follow source destination queries)
unfolding copy_case
copy_law dry deps follow source destination queries = (
  pair_lawful deps follow source destination queries _ (λ state. copy_joins state destination (chosen_for state deps follow source queries) (unwrap_or dry false) (chosen_named state deps follow source queries)),
  λ state. pair_read state deps follow source destination queries (copying state (unwrap_or dry false) destination (chosen_for state deps follow source queries)),
)

pub move_law : (dry deps : Option Bool) (follow : PlainFollow) (source destination : List ℕ) (queries : List (List ℕ)) → KeepsTo (λ state. move_case state dry deps follow source destination queries)
unfolding move_case
move_law dry deps follow source destination queries = (
  pair_lawful deps follow source destination queries _ (λ state. move_joins state deps follow source destination queries (unwrap_or dry false)),
  λ state. pair_read state deps follow source destination queries (moving state (unwrap_or dry false) source destination (chosen_for state deps follow source queries)),
)

pub import_law : (dry deps : Option Bool) (follow : PlainFollow) (mirror repo : List ℕ) (queries : List (List ℕ)) → KeepsTo (λ state. import_case state dry deps follow mirror repo queries)
unfolding import_case
import_law dry deps follow mirror repo queries = (
  inr (λ inbox state. joining_law state (MayArrive inbox state readings.Nothing) (bad_import state follow mirror repo) (never_updated state mirror) queries repo (imported state deps follow mirror queries) _
      (own_import state follow mirror repo) (own_updated state mirror) (copy_joins state repo (imported state deps follow mirror queries) (unwrap_or dry false) (imported_named state deps follow mirror queries))),
  import_reads dry deps follow mirror repo queries,
)
