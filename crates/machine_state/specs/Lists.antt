-- The lists of packages of a state, and the packages that it knows.
use Rattle.std.specs.Prelude.{◌≡◌, ◌≤◌, ℕ, ◌+◌, List, [], ◌∷◌, length, Some, IsFalse, All}
use Rattle.std.specs.declared.cmp.Ordering.{Ordering}
use Rattle.package_core.specs.Card.{Card, package_text}
use Rattle.package_core.specs.Whole.{IsWhole}
use Rattle.package_core.specs.Order.{package_cmp}
use Rattle.package_list.specs.Sorted.{equal_of}
use Rattle.package_list.specs.Sorted as sorted
use Rattle.package_list.specs.Lists.{has_clash}
use Rattle.machine_state.specs.declared.limit.Limit.TheVariants.{Packages, Known, Catalogue, File}
use Rattle.machine_state.specs.Ascending.{IsAscending}
use Rattle.machine_state.specs.Limits.{limit_number}

-- the package is known, with the size and the digests that are known
abbrev pub IsKnown : List Card → Card → Type 0
IsKnown known p = equal_of package_cmp known p ≡ Some p

-- a list of packages by name, of a state that knows these
pub record IsNamedList (known list : List Card) : Type 0 where
  pub sorted : sorted.IsAscending package_cmp list
  pub apart : IsFalse (has_clash list)
  pub listed : All (IsKnown known) list
  pub few : length list ≤ limit_number Packages

-- the length of the texts of these packages together
abbrev pub text_length : List Card → ℕ
text_length [] = 0
text_length (p ∷ ps) = length (package_text p) + text_length ps

-- the packages that a state knows
pub record IsCatalogue (known : List Card) : Type 0 where
  pub packages : All IsWhole known
  pub sorted : sorted.IsAscending package_cmp known
  pub few : length known ≤ limit_number Known
  pub files : All (λ p. p.said.size ≤ limit_number File) known
  pub texts : text_length known ≤ limit_number Catalogue

-- what a state has of one kind: each as it has to be, and the lists that it holds too; in their order, none twice; not too many
pub record KindValid {X : Type 0} (Is HasLists : X → Type 0) (R : X → X → Ordering) (most : ℕ) (xs : List X) : Type 0 where
  pub each : All Is xs
  pub lists : All HasLists xs
  pub sorted : IsAscending R xs
  pub few : length xs ≤ most
