use Rattle.std.proofs.Common.{◌≡◌, ◌++◌, drop, false}
use Rattle.query_tree.specs.Pieces.{unquoted}
use Rattle.query_grammar.proofs.value.unquoted.Given as goal

abbrev pub invariant-loop-c : goal.invariant-loop-c
invariant-loop-c l = l.bytes.items ++ unquoted l.quote l.escaped (drop l.c-index l.text) ≡ unquoted l.quote false l.text
