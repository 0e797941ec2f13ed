use Rattle.std.proofs.Common.{◌≡◌, map, take, Ok}
use Rattle.query_tree.specs.Tree.{plains}
use Rattle.query_grammar.specs.Said.{query_of}
use Rattle.step_model.specs.Case.{bad_queries}
use Rattle.step_model.proofs.QueryLemmas.{bad_from}
use Rattle.step_model.proofs.queries.read_queries.Given as goal

abbrev pub invariant-loop-i : goal.invariant-loop-i
invariant-loop-i l = record {
  trees : map query_of (take l.i l.texts) ≡ map Ok (plains l.queries.items);
  bad : bad_queries l.texts ≡ bad_from l.texts l.i;
}
