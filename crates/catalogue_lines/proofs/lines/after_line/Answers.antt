use Rattle.std.proofs.Common.{sym, ◌∙◌}
use Rattle.catalogue_lines.proofs.LineLemmas.{line_unique}
use Rattle.catalogue_lines.proofs.ValueLemmas.{apart}
use Rattle.catalogue_lines.proofs.lines.after_line.Goals as goal

pub returns-else-eq : goal.returns-else-eq
returns-else-eq c = λ rest g. apart c.in-Some.first.now c.as_bytes.result.now c.if-eq.ensures ((line_unique c.args.text.now _ _ _ rest c.in-Some.ensures g).0 ∙ sym c.as_bytes.ensures.value)
