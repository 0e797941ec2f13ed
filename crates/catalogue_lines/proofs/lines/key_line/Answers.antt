use Rattle.catalogue_lines.proofs.LineLemmas.{line_unique}
use Rattle.catalogue_lines.proofs.lines.key_line.Goals as goal

pub returns-in-None-behind : goal.returns-in-None-behind
returns-in-None-behind c = λ written rest g. c.in-None-behind.ensures written (line_unique c.args.text.now _ _ _ rest c.in-Some.ensures g).0
