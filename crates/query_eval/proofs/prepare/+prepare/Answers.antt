use Rattle.std.proofs.Common.{◌+◌, map, drop, ap}
use Rattle.std.proofs.lemmas.Result.{err_from_is_err_and}
use Rattle.query_tree.specs.Tree.{plain, plains, listed}
use Rattle.query_eval.specs.Conditions.{patterns_of, patterns_in}
use Rattle.query_eval.specs.Preparing.{node_tree}
use Rattle.query_eval.proofs.Preparing.{done_none, done_more, done_refused, patterns_next, nodes_next}
use Rattle.query_eval.proofs.prepare.+prepare.Goals as goal

pub prepare_all-loop-query-init : goal.prepare_all-loop-query-init
prepare_all-loop-query-init g t c = record {
  nodes = ap (map node_tree) c.new-nodes.ensures.items;
  done = done_none c.args.before _ _ _;
}

pub prepare_all-returns-in_err-node-clause-prepares : goal.prepare_all-returns-in_err-node-clause-prepares
prepare_all-returns-in_err-node-clause-prepares g t c =
    let next = patterns_next c.args.queries.now c.query-item.result c.loop-query.query-index c.loop-query-test.true c.query-item.is in
    let done = rw next at c.loop-query.invariant.done in
    let answer = err_from_is_err_and c.from_residual.result c.from_residual.ensures.1 in
    rw (answer.1, answer.2) (done_refused c.args.before (patterns_in (listed (plains c.args.queries.now))) (patterns_of (plain c.query-item.result)) (patterns_in (listed (plains (drop (c.loop-query.query-index + 1) c.args.queries.now)))) c.loop-query.count _ _ _ _ _ _ c.in_err-node.field-0.0 done c.in_err-node.ensures.prepares)

pub prepare_all-loop-query-preserved : goal.prepare_all-loop-query-preserved
prepare_all-loop-query-preserved g t c =
    let next = patterns_next c.args.queries.now c.query-item.result c.loop-query.query-index c.loop-query-test.true c.query-item.is in
    let done = rw next at c.loop-query.invariant.done in
    let p = c.in_ok-node.ensures.prepares in
    record {
      nodes = nodes_next c.loop-query.nodes.items c.push.new.self.items c.args.queries.now c.query-item.result c.in_ok-node.node c.loop-query.query-index c.loop-query-test.true c.query-item.is c.loop-query.invariant.nodes c.in_ok-node.ensures.stands c.in_ok-push.ensures.items;
      done = done_more c.args.before (patterns_in (listed (plains c.args.queries.now))) (patterns_of (plain c.query-item.result)) (patterns_in (listed (plains (drop (c.loop-query.query-index + 1) c.args.queries.now)))) c.loop-query.count c.in_ok-node.after _ _ _ _ _ _ done p.read c.in_ok-node.ensures.count p.never_falls p.kept;
    }
