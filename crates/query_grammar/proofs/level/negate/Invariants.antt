use Rattle.std.proofs.Common.{◌≡◌}
use Rattle.query_tree.specs.Tree.{plain}
use Rattle.query_grammar.specs.Reading.{negate}
use Rattle.query_grammar.proofs.level.negate.Given as goal

abbrev pub invariant-loop-done : goal.invariant-loop-done
invariant-loop-done l = plain l.read ≡ negate l._done (plain l.fn.query)
