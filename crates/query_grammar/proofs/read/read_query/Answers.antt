use Rattle.std.proofs.Common.{sym, subst, Result, ℕ}
use Rattle.query_tree.specs.Tree.{Tree}
use Rattle.query_grammar.specs.Said.{Says}
use Rattle.query_grammar.proofs.Said.{long, short}
use Rattle.query_grammar.proofs.read.read_query.Goals as goal

pub returns-then-text-gt4096-clause-value : goal.returns-then-text-gt4096-clause-value
returns-then-text-gt4096-clause-value c = long c.args.text.now c.if-text-gt4096.true

pub returns-clause-value : goal.returns-clause-value
returns-clause-value c = subst (λ (said : Result Tree ℕ). Says said c.read_filter.result) (sym (short c.args.text.now c.if-text-gt4096.false)) c.read_filter.ensures.value
