-- What a case has to keep to, so that the steps of all commands do.
use Rattle.std.specs.Prelude.{◌≡◌, ◌≢◌, ◌⊎◌, ℕ, List, [], All, Option, None, IfSome}
use Rattle.std.specs.List.{Contains}
use Rattle.ap_host.specs.Disk.{Files}
use Rattle.package_core.specs.Card.{Card}
use Rattle.machine_state.specs.declared.refusal.Refusal.{Refusal}
use Rattle.machine_state.specs.declared.refusal.Refusal.TheVariants.{NotBuilt, BadPattern, PatternTooLarge}
use Rattle.machine_state.specs.declared.arrived.Arrived.{Arrived}
use Rattle.machine_state.specs.declared.arrived.Arrived.TheVariants as arrivals
use Rattle.machine_state.specs.State.{Valid}
use Rattle.machine_state.specs.Values.{StateView}
use Rattle.step_model.specs.declared.reading.Reading.{Reading}
use Rattle.step_model.specs.Case.{Case, Came, changes, refuses, unbuilt}

-- the packages that arrived
abbrev pub list_in : Arrived → List Card
list_in (arrivals.List list date) = list
list_in arrivals.Nothing = []
list_in (arrivals.Refused refusal) = []

abbrev pub IfChanges : Came → (List ℕ → StateView → Type 0) → Type 0
IfChanges (changes reply state) P = P reply state
IfChanges (refuses refusal) P = Unit {0}

abbrev pub IfRefuses : Came → (Refusal → Type 0) → Type 0
IfRefuses (changes reply state) P = Unit {0}
IfRefuses (refuses refusal) P = P refusal

-- a refusal that isn't of a pattern, and not for want of the command
abbrev pub IsOwn : Refusal → Type 0
IsOwn NotBuilt = ⊥
IsOwn (BadPattern query test) = ⊥
IsOwn (PatternTooLarge query test) = ⊥
IsOwn _ = Unit {0}

-- What a state knows was known, or arrived; and so far it publishes something only where something was published.
abbrev pub IsFrom : StateView → Arrived → StateView → Type 0
IsFrom old arrived new = All (λ p. Contains old.known p ⊎ Contains (list_in arrived) p) new.known × (old.publications ≡ [] → new.publications ≡ [])

-- The case of a built command in a state, for which this may arrive.
pub record IsLawful (state : StateView) (MayArrive : Arrived → Type 0) (case : Case) : Type 0 where
  -- a valid state goes over into a valid one
  pub valid : Valid state → case.early ≡ None → case.late ≡ None → (arrived : Arrived) → MayArrive arrived → IfChanges (case.comes arrived) (λ reply new. Valid new)
  -- a reply has a byte
  pub says : (arrived : Arrived) → IfChanges (case.comes arrived) (λ reply new. reply ≢ [])
  pub knows : (arrived : Arrived) → IfChanges (case.comes arrived) (λ reply new. IsFrom state arrived new)
  -- it is refused for a pattern only where its patterns are built, or where such a refusal arrived
  pub early : IfSome case.early IsOwn
  pub late : IfSome case.late IsOwn
  pub comes : (arrived : Arrived) → MayArrive arrived → IfRefuses (case.comes arrived) (λ refusal. IsOwn refusal ⊎ (arrived ≡ arrivals.Refused refusal))

-- The case of a command in each state: it is built in none, or lawful in all, whatever an inbox holds. The relation says what may arrive
-- where something is read.
abbrev pub CommandLaw : (StateView → Case) → (Option Files → StateView → Reading → Arrived → Type 0) → Type 0
CommandLaw case May =
    ((state : StateView) → case state ≡ unbuilt)
    ⊎ ((inbox : Option Files) (state : StateView) → IsLawful state (λ arrived. May inbox state (case state).reads arrived) (case state))

-- a command that isn't built, or the case of one that is, for which this may arrive
abbrev pub LawOf : StateView → (Arrived → Type 0) → Case → Type 0
LawOf state MayArrive case = (case ≡ unbuilt) ⊎ IsLawful state MayArrive case

-- the same where this arrived
abbrev pub LawFor : StateView → Arrived → Case → Type 0
LawFor state arrived case = LawOf state (λ a. a ≡ arrived) case
