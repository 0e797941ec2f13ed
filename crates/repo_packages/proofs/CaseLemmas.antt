-- Repositories that are named, and what an addition comes to.
use Rattle.std.proofs.Common.{◌≡◌, ℕ, List, Option, Some, None, Bool, true, false, IsTrue, sym, subst, refl, ◌∙◌}
use Rattle.std.specs.Option.{is_some}
use Rattle.std.specs.Bool.{if◌then◌else◌}
use Rattle.ap_host.specs.Disk.{Files}
use Rattle.machine_state.specs.declared.limit.Kind.TheVariants as kinds
use Rattle.machine_state.specs.declared.change.ChangeFault.{ChangeFault}
use Rattle.machine_state.specs.declared.refusal.Refusal.TheVariants.{Unknown}
use Rattle.machine_state.specs.declared.arrived.Arrived.{Arrived}
use Rattle.machine_state.specs.declared.repo.Repo.{Repo}
use Rattle.machine_state.specs.State.{repo_of}
use Rattle.machine_state.specs.Values.{StateView}
use Rattle.step_model.specs.declared.reading.Reading.{Reading}
use Rattle.step_model.specs.declared.reading.Reading.TheVariants as readings
use Rattle.step_model.specs.Case.{Came}
use Rattle.step_model.specs.Names.{bad_name, bad_folder}
use Rattle.step_model.specs.Refuses.{reading}
use Rattle.step_model.specs.Answers.{ComesTo, IsFirst, IsWanted}
use Rattle.step_model.proofs.OwnLemmas.{last_none}
use Rattle.step_model.proofs.RefusalLemmas.{passes, reads_on}
use Rattle.package_intake.specs.Answers.{IsArrival}
use Rattle.repo_packages.specs.PackageCases.{addition_case, taken_in, unknown, MayArrive}

pub unknown_along : (repos : List Repo) (n m : List ℕ) (fault : ChangeFault) → n ≡ m → IsFirst (unknown repos n) fault → IsFirst (unknown repos m) fault
unknown_along repos n m fault f h = subst (λ (k : List ℕ). IsFirst (unknown repos k) fault) f h

pub is_there : (repos : List Repo) (name : List ℕ) → unknown repos name ≡ None → is_some (repo_of name repos) ≡ true
is_there repos name = by_found (is_some (repo_of name repos))
  where
    by_found : (b : Bool) → (if b then None else Some (Unknown kinds.Repo name)) ≡ None → b ≡ true
    by_found true h = refl
    by_found false h = cc

-- ---- an addition

pub added_comes : (state : StateView) (name folder : List ℕ) (arrived : Arrived) (comes : Came) → (addition_case state name folder).early ≡ None → taken_in state name arrived ≡ comes → ComesTo None (addition_case state name folder) arrived comes
unfolding addition_case
added_comes state name folder arrived comes good e = (passes None (addition_case state name folder) good refl refl, e)

-- the repository of an addition that goes on
pub there_is : (state : StateView) (name folder : List ℕ) → (addition_case state name folder).early ≡ None → IsTrue (is_some (repo_of name state.repos))
unfolding addition_case
there_is state name folder e = is_there state.repos name (last_none (bad_name name) (bad_folder folder) (unknown state.repos name) e)

-- what is read for an addition that goes on
pub reads_folder : (state : StateView) (name folder : List ℕ) → (addition_case state name folder).early ≡ None → reading (addition_case state name folder) ≡ readings.Folder name folder
unfolding addition_case
reads_folder state name folder e = reads_on (addition_case state name folder) e refl

-- and what arrives for it
pub arrived_for : (inbox : Option Files) (state : StateView) (name folder : List ℕ) (arrived : Arrived) → (addition_case state name folder).early ≡ None
    → MayArrive inbox state (reading (addition_case state name folder)) arrived → IsArrival inbox state name folder arrived
arrived_for inbox state name folder arrived e h = subst (λ (r : Reading). MayArrive inbox state r arrived) (reads_folder state name folder e) h

pub add_wanted : (state : StateView) (name folder : List ℕ) (wanted : Reading) → (addition_case state name folder).early ≡ None → wanted ≡ readings.Folder name folder → IsWanted None (addition_case state name folder) wanted
unfolding addition_case
add_wanted state name folder wanted e is = (passes None (addition_case state name folder) e refl refl, is ∙ sym (reads_folder state name folder e))
