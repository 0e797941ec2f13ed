use Rattle.std.proofs.Common.{◌∙◌}
use Rattle.catalogue_lines.proofs.TakesLemmas.{number_is}
use Rattle.catalogue_text.proofs.StateLemmas.{first_bad}
use Rattle.catalogue_text.proofs.read.read_root.Goals as goal

pub returns-in-Err-Before-clause-fault : goal.returns-in-Err-Before-clause-fault
returns-in-Err-Before-clause-fault c = λ apart.
    let s = (rw c.in-Err-Before.field-0-is at c.in-Err-Before.ensures.stops) c.line_before.ensures.small apart in
    first_bad c.args.bytes.now c.in-Err-Before.left c.line_before.result s (c.line_before.ensures.number ∙ number_is s.good c.args.bytes.now s.rest c.in-Err-Before.left s.takes s.left_is)
