-- Snapshots that are there or aren't, and commands with queries, by how it goes.
use Rattle.std.proofs.Common.{◌≡◌, ℕ, List, Option, Some, None, Bool, true, false, inr, subst, refl}
use Rattle.std.specs.Option.{is_some}
use Rattle.std.specs.Bool.{if◌then◌else◌}
use Rattle.machine_state.specs.declared.limit.Kind.TheVariants as kinds
use Rattle.machine_state.specs.declared.change.ChangeFault.{ChangeFault}
use Rattle.machine_state.specs.declared.refusal.Refusal.{Refusal}
use Rattle.machine_state.specs.declared.refusal.Refusal.TheVariants.{Exists, Unknown}
use Rattle.machine_state.specs.declared.arrived.Arrived.{Arrived}
use Rattle.machine_state.specs.declared.snapshot.Snapshot.{Snapshot}
use Rattle.machine_state.specs.State.{snapshot_of}
use Rattle.step_model.specs.Case.{Came, asking_case, refuses}
use Rattle.step_model.specs.Answers.{AreBuilt, FaultIs, IsFirst, IsRefusedFor, Told}
use Rattle.step_model.proofs.AskingLemmas.{asking_comes}
use Rattle.step_model.proofs.FaultLemmas.{fault_map}
use Rattle.snapshot_pull.specs.Snapshots.{taken, unknown}

pub taken_along : (snapshots : List Snapshot) (n m : List ℕ) (fault : ChangeFault) → n ≡ m → IsFirst (taken snapshots n) fault → IsFirst (taken snapshots m) fault
taken_along snapshots n m fault f h = subst (λ (k : List ℕ). IsFirst (taken snapshots k) fault) f h

pub unknown_along : (snapshots : List Snapshot) (n m : List ℕ) (fault : ChangeFault) → n ≡ m → IsFirst (unknown snapshots n) fault → IsFirst (unknown snapshots m) fault
unknown_along snapshots n m fault f h = subst (λ (k : List ℕ). IsFirst (unknown snapshots k) fault) f h

pub is_free : (snapshots : List Snapshot) (name : List ℕ) → taken snapshots name ≡ None → is_some (snapshot_of name snapshots) ≡ false
is_free snapshots name = by_found (is_some (snapshot_of name snapshots))
  where
    by_found : (b : Bool) → (if b then Some (Exists kinds.Snapshot name) else None) ≡ None → b ≡ false
    by_found true h = cc
    by_found false h = refl

pub is_there : (snapshots : List Snapshot) (name : List ℕ) → unknown snapshots name ≡ None → is_some (snapshot_of name snapshots) ≡ true
is_there snapshots name = by_found (is_some (snapshot_of name snapshots))
  where
    by_found : (b : Bool) → (if b then None else Some (Unknown kinds.Snapshot name)) ≡ None → b ≡ true
    by_found true h = refl
    by_found false h = cc

-- a command with queries that is refused behind them
pub asking_told : (early : Option Refusal) (queries : List (List ℕ)) (came : Came) (old new : ℕ) (refused : Option (List ℕ)) (arrived : Arrived) (fault : ChangeFault) → early ≡ None → AreBuilt queries → FaultIs (λ refusal. came ≡ refuses refusal) fault
    → FaultIs (λ refusal. Told old new refused (λ large. IsRefusedFor large (asking_case early queries came) arrived refusal)) fault
asking_told early queries came old new refused arrived fault good built h =
    fault_map (λ refusal. came ≡ refuses refusal) (λ refusal. Told old new refused (λ large. IsRefusedFor large (asking_case early queries came) arrived refusal)) fault
    (λ refusal e. (None, tt, inr (asking_comes early queries came arrived (refuses refusal) good built e))) h
