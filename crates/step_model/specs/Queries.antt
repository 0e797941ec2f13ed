-- What the queries of a command find.
use Rattle.std.specs.Prelude.{ℕ, List, [], Bool, false, Result, Ok, Err}
use Rattle.std.specs.List.{filter, list_any}
use Rattle.package_core.specs.Card.{Card}
use Rattle.query_tree.specs.Tree.{Tree}
use Rattle.query_grammar.specs.Said.{query_of}
use Rattle.query_eval.specs.Truth.{matches}
pub use Rattle.query_eval.specs.Several.{some_true}

-- the packages of which a query is true, in the order of the list
abbrev pub found_by : List Card → Result Tree ℕ → List Card
found_by list (Ok t) = filter (matches t) list
found_by list (Err place) = []

-- the text is a query, and it is true of the package
abbrev pub is_true_of : Result Tree ℕ → Card → Bool
is_true_of (Ok t) p = matches t p
is_true_of (Err place) p = false

-- the packages of which some of the queries of a command is true, in the order of the list
abbrev pub chosen : List Card → List (List ℕ) → List Card
chosen list queries = filter (λ p. list_any (λ text. is_true_of (query_of text) p) queries) list
