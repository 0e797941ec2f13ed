-- The packages that a pull begins with.
use Rattle.std.specs.Prelude.{ℕ, List, [], Bool, true, false, ◌&&◌, ◌||◌, bytes_eq, codes}
use Rattle.std.specs.List.{list_any, filter}
use Rattle.std.specs.Ordering.{ordering_then}
use Rattle.std.specs.declared.cmp.Ordering.{Ordering}
use Rattle.package_core.specs.Card.{Card}
use Rattle.package_core.specs.Order.{text_cmp}
use Rattle.package_list.specs.Lists.{greatest}
use Rattle.package_list.specs.Sorted.{union}
use Rattle.package_relations.specs.Order.{by_version_cmp}
use Rattle.query_eval.specs.Several.{some_true}
use Rattle.query_tree.specs.Tree.{Tree}

-- it is for every architecture
abbrev pub is_of_all : Card → Bool
is_of_all p = bytes_eq p.arch (codes "all")

-- its architecture is `all` or one of these
abbrev pub is_for_some : List (List ℕ) → Card → Bool
is_for_some archs p = is_of_all p || list_any (λ arch. bytes_eq p.arch arch) archs

-- by name, and then the greatest first, by version and then by the order of packages
unfoldable pub seed_cmp : Card → Card → Ordering
seed_cmp a b = ordering_then (text_cmp a.name b.name) (by_version_cmp b a)

-- all of them, or of each name and architecture the greatest alone
abbrev pub of_each : Bool → List Card → List Card
of_each true list = list
of_each false list = greatest list

-- the members that are asked for and of these architectures
abbrev pub asked_for : List Tree → List (List ℕ) → List Card → List Card
asked_for queries archs source = filter (λ p. some_true queries p && is_for_some archs p) source

-- the same in the order of seeds
abbrev pub seeds : Bool → List Tree → List (List ℕ) → List Card → List Card
seeds all_matches queries archs source = union seed_cmp [] (of_each all_matches (asked_for queries archs source))
