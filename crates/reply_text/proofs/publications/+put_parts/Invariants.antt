use Rattle.std.proofs.Common.{length}
use Rattle.reply_text.proofs.publications.+put_parts.Given as goal

-- proposed from what the function passes where it calls itself
abbrev pub decreases-put_parts : goal.decreases-put_parts
decreases-put_parts l = length l.sources.now
