-- What a list makes of a state to which it is added.
use Rattle.std.specs.Prelude.{◌≡◌, ℕ, List, map, Ok, bytes_eq, if◌then◌else◌, All}
use Rattle.package_core.specs.Card.{Card}
use Rattle.package_core.specs.Order.{package_cmp}
use Rattle.package_list.specs.Lists.{union}
use Rattle.machine_state.specs.declared.repo.Repo.{Repo}
use Rattle.machine_state.specs.Values.{StateView}
use Rattle.package_core.specs.Whole.{IsWhole}
use Rattle.package_list.specs.Sorted.{IsAscending}
use Rattle.machine_state.specs.State.{IsCatalogue, IsNamedList, Valid}
use Rattle.package_intake.specs.Taking.{AreTakenIn}
use Rattle.package_intake.specs.Arrival.{check_answer}

-- the repository with these packages added, if it has that name
abbrev pub with_more : List ℕ → List Card → Repo → Repo
with_more name list repo = if bytes_eq repo.name name then record repo { list = union repo.list list } else repo

-- The state with a list added to a repository, and known. Of two equal packages the one that was there stays.
abbrev pub added : StateView → List ℕ → List Card → StateView
added state name list = record state { known = union state.known list; repos = map (with_more name list) state.repos }

-- The packages are whole. With them what is known keeps to what is asked of it, and a list of one's own is one of packages by name.
pub record FitsWith (known own list : List Card) : Type 0 where
  pub whole : All IsWhole list
  pub catalogue : IsCatalogue (union known list)
  pub listed : IsNamedList (union known list) (union own list)

-- the packages are whole, and the state that they are added to stays valid
pub record FitsIn (state : StateView) (name : List ℕ) (list : List Card) : Type 0 where
  pub whole : All IsWhole list
  pub valid : Valid (added state name list)

-- The list came of packages in their order, and can be added to a repository's own and to what is known.
pub record Fitting (known own list : List Card) : Type 0 where
  pub packages : List Card
  pub ascending : IsAscending package_cmp packages
  pub taken : AreTakenIn known packages list
  pub checked : check_answer known own list ≡ Ok tt
