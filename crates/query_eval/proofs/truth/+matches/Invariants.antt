use Rattle.std.proofs.Common.{◌≡◌, map, drop}
use Rattle.query_tree.specs.Tree.{listed}
use Rattle.query_eval.specs.Preparing.{node_tree}
use Rattle.query_eval.specs.Truth.{some_matches, each_matches}
use Rattle.query_eval.proofs.truth.+matches.Given as goal

abbrev pub invariant-some_match-loop-node : goal.invariant-some_match-loop-node
invariant-some_match-loop-node l = record {
  asked : l.asked ≡ l.initial.asked;
  same : some_matches (listed (map node_tree l.nodes)) l.asked ≡ some_matches (listed (map node_tree (drop l.node-index l.nodes))) l.asked;
}

abbrev pub invariant-each_match-loop-node : goal.invariant-each_match-loop-node
invariant-each_match-loop-node l = record {
  asked : l.asked ≡ l.initial.asked;
  same : each_matches (listed (map node_tree l.nodes)) l.asked ≡ each_matches (listed (map node_tree (drop l.node-index l.nodes))) l.asked;
}
