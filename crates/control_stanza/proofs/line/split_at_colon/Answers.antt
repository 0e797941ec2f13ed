use Rattle.std.proofs.Common.{arith}
use Rattle.std.proofs.lemmas.Str.Pattern.{split_parts}
use Rattle.control_stanza.proofs.LineLemmas.{split_is}
use Rattle.control_stanza.proofs.line.split_at_colon.Goals as goal

pub returns : goal.returns
returns c = split_is _ _ (split_parts 58 c.args.line.now c.split_once.result c.split_once.ensures.cases (omega arith))
