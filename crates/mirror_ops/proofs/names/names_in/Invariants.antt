use Rattle.std.proofs.Common.{◌≡◌, ◌++◌}
use Rattle.mirror_ops.proofs.names.names_in.Given as goal

abbrev pub invariant-loop-word : goal.invariant-loop-word
invariant-loop-word l = l.names.items ++ l.word-iterator ≡ l.fn.set.keys
