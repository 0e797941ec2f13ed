use Rattle.std.proofs.Common.{◌≡◌, map, take, drop}
use Rattle.query_tree.specs.Tree.{plains, listed}
use Rattle.query_eval.specs.Conditions.{patterns_in}
use Rattle.query_eval.specs.Preparing.{node_tree}
use Rattle.query_eval.proofs.Preparing.{Done}
use Rattle.query_eval.proofs.prepare.+prepare.Given as goal

abbrev pub invariant-prepare_all-loop-query : goal.invariant-prepare_all-loop-query
invariant-prepare_all-loop-query g l = record {
  nodes : map node_tree l.nodes.items ≡ plains (take l.query-index l.queries);
  done : Done l.before (patterns_in (listed (plains l.queries))) (patterns_in (listed (plains (drop l.query-index l.queries)))) l.count (g.M.Patterns.refusals l.initial.patterns) (g.M.Patterns.refusals l.patterns) (g.M.Patterns.refused l.initial.patterns) (g.M.Patterns.refused l.patterns);
}
