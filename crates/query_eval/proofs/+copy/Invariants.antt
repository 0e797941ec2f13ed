use Rattle.std.proofs.Common.{◌≡◌, map, take}
use Rattle.query_eval.specs.Preparing.{node_tree}
use Rattle.query_eval.proofs.+copy.Given as goal

abbrev pub invariant-copy::copy_all-loop-i : goal.invariant-copy::copy_all-loop-i
invariant-copy::copy_all-loop-i l = map node_tree l.all.items ≡ map node_tree (take l.i l.nodes)
