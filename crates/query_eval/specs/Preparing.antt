-- What the prepared form of a query stands for.
use Rattle.std.specs.Prelude.{ℕ, List}
use Rattle.std.specs.Option.{option_map}
use Rattle.query_tree.specs.declared.query.Test.{Test}
use Rattle.query_tree.specs.declared.query.Test.TheVariants as test
use Rattle.query_tree.specs.Tree.{Tree, any, all, negated, reference, wanted, field, listed}
use Rattle.query_tree.specs.Written.{test_of}
use Rattle.query_eval.specs.declared.node.Check.{Check}
use Rattle.query_eval.specs.declared.node.Check.TheVariants.{Compared, Glob, Pattern}
use Rattle.query_eval.specs.declared.node.Node.{Node}
use Rattle.query_eval.specs.declared.node.Node.TheOpen.{Node-F, Any, All, Not, Reference, Wanted, Field}
use Rattle.query_eval.specs.declared.node.Node.TheFolds.{fold-Node}

abbrev pub check_test : Check → Test × List ℕ
check_test (Compared relation text) = (test_of relation, text)
check_test (Glob pattern) = (test.Glob, pattern)
check_test (Pattern expression) = (test.Pattern, expression)

abbrev pub step_tree : Node-F Tree → Tree
step_tree (Any nodes) = any (listed nodes.items)
step_tree (All nodes) = all (listed nodes.items)
step_tree (Not node) = negated node.value
step_tree (Reference name version arch) = reference name version arch
step_tree (Wanted name relation arch) = wanted name relation arch
step_tree (Field name check) = field name (option_map check_test check)

-- the tree of the query
abbrev pub node_tree : Node → Tree
node_tree = fold-Node Tree step_tree
