-- What an arrival makes of a state.
use Rattle.std.specs.Prelude.{ℕ, List, Some, All}
use Rattle.package_core.specs.Card.{Card}
use Rattle.package_core.specs.Whole.{IsWhole}
use Rattle.package_list.specs.Lists.{union}
use Rattle.machine_state.specs.declared.fetched.Fetched.{Fetched}
use Rattle.machine_state.specs.Named.{changed}
use Rattle.machine_state.specs.State.{IsCatalogue, IsNamedList, Valid, mirror_name}
use Rattle.machine_state.specs.Texts.{IsDate}
use Rattle.machine_state.specs.Values.{MirrorView, StateView}

-- the mirror with what was fetched
abbrev pub with_fetched : Fetched → MirrorView → MirrorView
with_fetched fetched mirror = record mirror { updated = Some fetched }

-- The state in which the mirror of this name has fetched this. Of two equal packages the known one stays.
abbrev pub updated : StateView → List ℕ → Fetched → StateView
updated state name fetched =
    record state { known = union state.known fetched.list; mirrors = changed mirror_name name (with_fetched fetched) state.mirrors }

-- the packages are whole, and the state in which the mirror has fetched them is valid
pub record FitsIn (state : StateView) (name : List ℕ) (fetched : Fetched) : Type 0 where
  pub whole : All IsWhole fetched.list
  pub valid : Valid (updated state name fetched)

-- The packages are whole. With them what is known keeps to what is asked of it, and they are a list of packages by name.
pub record IsKnowable (known list : List Card) : Type 0 where
  pub whole : All IsWhole list
  pub catalogue : IsCatalogue (union known list)
  pub listed : IsNamedList (union known list) list

-- the same of what was fetched, whose date is one line
pub record FitsWith (known : List Card) (fetched : Fetched) : Type 0 where
  pub date : IsDate fetched.date
  pub list : IsKnowable known fetched.list
