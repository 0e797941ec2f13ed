use Rattle.std.proofs.Common.{sym, ◌∙◌}
use Rattle.ap_text.proofs.PathLemmas.{length_from_no_slash}
use Rattle.ap_text.proofs.path.segment_len.Goals as goal

pub returns-in-None : goal.returns-in-None
returns-in-None c = length_from_no_slash c.args.bytes.now (sym c.next_slash.ensures ∙ c.in-None.is)
