use Rattle.query_tree.proofs.Round.{written_again}
use Rattle.query_tree.proofs.laws.written_query_is_read_back.Goals as goal

pub returns : goal.returns
returns c = written_again
