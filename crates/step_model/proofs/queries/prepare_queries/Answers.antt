use Rattle.std.proofs.Common.{◌+◌, List, Ok, map, subst, refl}
use Rattle.query_tree.specs.Tree.{plain, plains}
use Rattle.query_eval.specs.Conditions.{patterns_of}
use Rattle.step_model.specs.Case.{Condition, conditions_behind, numbered}
use Rattle.step_model.proofs.FaultLemmas.{at_exit}
use Rattle.step_model.proofs.PatternLemmas.{Done, conditions_from, conditions_next, done_more, done_refused}
use Rattle.step_model.proofs.QueryLemmas.{prepared_next}
use Rattle.step_model.proofs.queries.prepare_queries.Goals as goal

pub returns-in_err-built-clause-fault : goal.returns-in_err-built-clause-fault
returns-in_err-built-clause-fault g c =
    let queries = c.args.queries.now in
    let query = c.index-queries-i.result in
    let i = c.loop-i.i in
    let all = conditions_behind 0 (map Ok (plains queries)) in
    let old = g.M.Patterns.refusals c.args.patterns.now in
    let mid = g.M.Patterns.refusals c.loop-i.patterns in
    let refused = g.M.Patterns.refused c.args.patterns.now in
    let mid_refused = g.M.Patterns.refused c.loop-i.patterns in
    let next = conditions_next queries query i (i + 1) c.loop-i-test.true c.index-queries-i.is refl in
    let done = subst (λ (l : List Condition). Done all l old mid refused mid_refused) next c.loop-i.invariant.done in
    let fault = c.in_err-built.field-0.0 in
    at_exit c.from_residual.result fault _ c.from_residual.ensures.1
    (done_refused all (numbered (i + 1) 0 (patterns_of (plain query))) (conditions_from queries (i + 1)) old mid _ refused mid_refused _ fault done c.in_err-built.ensures.fault)

pub loop-i-preserved : goal.loop-i-preserved
loop-i-preserved g c =
    let queries = c.args.queries.now in
    let query = c.index-queries-i.result in
    let i = c.loop-i.i in
    let all = conditions_behind 0 (map Ok (plains queries)) in
    let old = g.M.Patterns.refusals c.args.patterns.now in
    let mid = g.M.Patterns.refusals c.loop-i.patterns in
    let refused = g.M.Patterns.refused c.args.patterns.now in
    let mid_refused = g.M.Patterns.refused c.loop-i.patterns in
    let next = conditions_next queries query i (i + 1) c.loop-i-test.true c.index-queries-i.is refl in
    let done = subst (λ (l : List Condition). Done all l old mid refused mid_refused) next c.loop-i.invariant.done in
    let p = c.in_ok-built.ensures in
    record {
      same = prepared_next c.loop-i.made.items c.push.new.self.items queries query c.in_ok-built.field-0 i c.loop-i-test.true c.index-queries-i.is c.loop-i.invariant.same p.same c.in_ok-push.ensures.items;
      done = done_more all (numbered (i + 1) 0 (patterns_of (plain query))) (conditions_from queries (i + 1)) old mid _ refused mid_refused _ done p.read p.never_falls p.kept;
    }
