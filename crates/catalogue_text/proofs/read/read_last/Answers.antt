use Rattle.std.proofs.Common.{sym, ◌∙◌}
use Rattle.std.proofs.lemmas.Bool.{true≢false}
use Rattle.catalogue_text.proofs.RootReads.{last_stops, last_read}
use Rattle.catalogue_text.proofs.read.read_last.Goals as goal

pub returns-in_default : goal.returns-in_default
returns-in_default c = last_stops c.args.known.now.list c.args.text.now (λ behind g l. c.in_default.ensures behind l)

pub returns-then-is_within_limits : goal.returns-then-is_within_limits
returns-then-is_within_limits c = last_read c.args.known.now.list c.args.text.now c.in-Some.behind.now c.in-Some.ensures (c.is_within_limits.ensures.0 c.if-is_within_limits.true)

pub returns-else-is_within_limits : goal.returns-else-is_within_limits
returns-else-is_within_limits c = last_stops c.args.known.now.list c.args.text.now (λ behind g l. true≢false (sym (c.is_within_limits.ensures.1 g) ∙ c.if-is_within_limits.false))
