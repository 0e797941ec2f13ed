use Rattle.query_tree.proofs.Kept.{written_line, written_text}
use Rattle.query_tree.proofs.laws.written_query_is_one_line.Goals as goal

pub returns-clause-line : goal.returns-clause-line
returns-clause-line c = written_line

pub returns-clause-utf8 : goal.returns-clause-utf8
returns-clause-utf8 c = written_text
