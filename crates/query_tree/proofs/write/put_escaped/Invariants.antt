use Rattle.std.proofs.Common.{◌≡◌, ◌++◌, drop}
use Rattle.query_tree.specs.Written.{escaped}
use Rattle.query_tree.proofs.write.put_escaped.Given as goal

abbrev pub invariant-loop-c : goal.invariant-loop-c
invariant-loop-c l = l.out.items ++ escaped (drop l.c-index l.value) ≡ l.initial.out.items ++ escaped l.value
