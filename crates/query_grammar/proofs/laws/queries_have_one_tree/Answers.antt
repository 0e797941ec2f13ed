use Rattle.query_grammar.proofs.Said.{one_tree}
use Rattle.query_grammar.proofs.laws.queries_have_one_tree.Goals as goal

pub returns : goal.returns
returns c = one_tree
