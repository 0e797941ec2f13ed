use Rattle.std.proofs.Common.{◌≡◌, map, take, Ok}
use Rattle.query_tree.specs.Tree.{plains}
use Rattle.step_model.specs.Case.{conditions_behind}
use Rattle.step_model.proofs.PatternLemmas.{Done, conditions_from}
use Rattle.step_model.proofs.queries.prepare_queries.Given as goal

abbrev pub invariant-loop-i : goal.invariant-loop-i
invariant-loop-i g l = record {
  same : l.made.items ≡ plains (take l.i l.queries);
  done : Done (conditions_behind 0 (map Ok (plains l.queries))) (conditions_from l.queries l.i) (g.M.Patterns.refusals l.initial.patterns) (g.M.Patterns.refusals l.patterns) (g.M.Patterns.refused l.initial.patterns) (g.M.Patterns.refused l.patterns);
}
