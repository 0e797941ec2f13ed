-- What a mirror has fetched, and whether it has already.
use Rattle.std.specs.Prelude.{◌≡◌, ℕ, Bool, true, false, ◌&&◌, List, [], ◌∷◌, Option, Some, None, Result, IfOk, option_map}
use Rattle.std.specs.Ordering.{is_eq}
use Rattle.std.specs.Str.{bytes_eq}
use Rattle.package_core.specs.Card.{Card}
use Rattle.package_core.specs.Order.{package_cmp}
use Rattle.machine_state.specs.declared.arrived.Arrived.TheVariants as arrivals
use Rattle.machine_state.specs.declared.change.Change.{Change}
use Rattle.machine_state.specs.declared.change.ChangeFault.{ChangeFault}
use Rattle.machine_state.specs.declared.fetched.Fetched.{Fetched}
use Rattle.machine_state.specs.Named.{changed}
use Rattle.machine_state.specs.State.{mirror_name, mirror_of}
use Rattle.machine_state.specs.Values.{MirrorView, StateView}
use Rattle.mirror_update.specs.Fits.{with_fetched}
use Rattle.step_model.specs.Answers.{came}
use Rattle.mirror_ops.specs.Cases.{taken_in}

-- the mirror is one of the state
abbrev pub Has : StateView → MirrorView → Type 0
Has state mirror = mirror_of mirror.name state.mirrors ≡ Some mirror

-- the mirror is the one of its name in the state, but that it has fetched this
abbrev pub IsOneWith : StateView → Fetched → MirrorView → Type 0
IsOneWith state fetched made = option_map (with_fetched fetched) (mirror_of made.name state.mirrors) ≡ Some made

-- what was fetched, of a list that arrived and its date
abbrev pub fetched_of : List Card → List ℕ → Fetched
fetched_of list date = record { date = date; list = list }

-- the mirror of that name has fetched this; what is known stays as it was
abbrev pub fetched_in : StateView → List ℕ → Fetched → StateView
fetched_in state name fetched = record state { mirrors = changed mirror_name name (with_fetched fetched) state.mirrors }

-- the call tells what comes of this, where it arrived for the mirror
abbrev pub TakesIn : StateView → MirrorView → Fetched → Result Change ChangeFault → Type 0
TakesIn state mirror fetched result = IfOk result (λ change. taken_in state mirror.name (arrivals.List fetched.list fetched.date) ≡ came state change)

-- the members of both are equal in the order of packages, one by one
abbrev pub same_members : List Card → List Card → Bool
same_members [] [] = true
same_members (p ∷ ps) (q ∷ qs) = is_eq (package_cmp p q) && same_members ps qs
same_members [] (q ∷ qs) = false
same_members (p ∷ ps) [] = false

-- what was fetched was so already: the date and the members
abbrev pub has_fetched : Option Fetched → Fetched → Bool
has_fetched None fetched = false
has_fetched (Some old) fetched = bytes_eq old.date fetched.date && same_members old.list fetched.list
