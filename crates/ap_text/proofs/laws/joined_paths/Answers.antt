use Rattle.ap_text.proofs.JoinLemmas.{safe_joined, below_joined, segments_joined}
use Rattle.ap_text.proofs.laws.joined_paths.Goals as goal

pub returns : goal.returns
returns c = record { safe = safe_joined; below = below_joined; each_segment = segments_joined }
