-- What the filter of a mirror asks for, and what it chooses.
use Rattle.std.specs.Prelude.{ℕ, Bool, true, false, List, [], ◌∷◌, map, Option, Some, None, Ok}
use Rattle.std.specs.List.{filter}
use Rattle.package_core.specs.Card.{Card}
use Rattle.query_tree.specs.Tree.{Tree}
use Rattle.query_eval.specs.Truth.{matches}
use Rattle.depend_pull.specs.declared.flags.PullFlags.{PullFlags}
use Rattle.depend_pull.specs.Pull.{with_what_it_needs}
use Rattle.machine_state.specs.Values.{MirrorView}
use Rattle.step_model.specs.Case.{Condition, conditions_behind}

-- a filter is one query, or none
abbrev pub queries_of : Option Tree → List Tree
queries_of None = []
queries_of (Some t) = t ∷ []

-- the `~` conditions of the filter, as those of the first query
abbrev pub conditions_of : MirrorView → List Condition
conditions_of mirror = conditions_behind 0 (map Ok (queries_of mirror.filter))

-- dependencies alone are followed
abbrev pub following : PullFlags
following = record { deps = true; remove = true; all_matches = true; recommends = false; suggests = false }

-- The packages of which the filter is true, with what they depend on of the list where that is wanted, over these architectures.
-- Without a filter they are all.
unfoldable pub chosen_by : Option Tree → Bool → List (List ℕ) → List Card → List Card
chosen_by None deps archs list = list
chosen_by (Some t) false archs list = filter (matches t) list
chosen_by (Some t) true archs list = with_what_it_needs following archs list (t ∷ [])
