-- Mirrors by name, and what they fetched last.
use Rattle.std.specs.Prelude.{ℕ, List, [], Option, Some, None, if◌then◌else◌}
use Rattle.std.specs.Option.{is_some}
use Rattle.package_core.specs.Card.{Card}
use Rattle.machine_state.specs.declared.fetched.Fetched.{Fetched}
use Rattle.machine_state.specs.declared.limit.Kind.TheVariants as kinds
use Rattle.machine_state.specs.declared.refusal.Refusal.{Refusal}
use Rattle.machine_state.specs.declared.refusal.Refusal.TheVariants.{NotUpdated, Unknown}
use Rattle.machine_state.specs.State.{mirror_of}
use Rattle.machine_state.specs.Values.{MirrorView, StateView}

-- no mirror has the name
abbrev pub unknown_mirror : List MirrorView → List ℕ → Option Refusal
unknown_mirror mirrors name = if is_some (mirror_of name mirrors) then None else Some (Unknown kinds.Mirror name)

abbrev pub fetched_in : Option MirrorView → Option Fetched
fetched_in None = None
fetched_in (Some mirror) = mirror.updated

-- what the mirror of that name fetched last, if it was ever updated
abbrev pub fetched_of : StateView → List ℕ → Option Fetched
fetched_of state name = fetched_in (mirror_of name state.mirrors)

-- a mirror that fetched this was never updated
abbrev pub never_in : Option Fetched → List ℕ → Option Refusal
never_in fetched name = if is_some fetched then None else Some (NotUpdated name)

-- the mirror of that name was never updated
abbrev pub never_updated : StateView → List ℕ → Option Refusal
never_updated state name = never_in (fetched_of state name) name

abbrev pub fetched_list_in : Option Fetched → List Card
fetched_list_in None = []
fetched_list_in (Some fetched) = fetched.list

-- the list of the mirror of that name
abbrev pub fetched_list_of : StateView → List ℕ → List Card
fetched_list_of state name = fetched_list_in (fetched_of state name)
