use Rattle.std.proofs.Common.{◌≡◌, take}
use Rattle.query_tree.specs.Tree.{plains}
use Rattle.query_tree.proofs.+copy.Given as goal

abbrev pub invariant-copy::copy_all-loop-i : goal.invariant-copy::copy_all-loop-i
invariant-copy::copy_all-loop-i l = plains l.all.items ≡ plains (take l.i l.queries)
