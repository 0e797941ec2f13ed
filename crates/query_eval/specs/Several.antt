-- Several queries, joined by 'or'.
use Rattle.std.specs.Prelude.{List, Bool}
use Rattle.std.specs.List.{list_any}
use Rattle.package_core.specs.Card.{Card}
use Rattle.query_tree.specs.Tree.{Tree}
use Rattle.query_eval.specs.Truth.{matches}

-- some of these queries is true of the package
abbrev pub some_true : List Tree → Card → Bool
some_true trees p = list_any (λ t. matches t p) trees
