use Rattle.ap_text.proofs.JoinLemmas.{safe_name, segments_name}
use Rattle.ap_text.proofs.laws.names_are_paths.Goals as goal

pub returns : goal.returns
returns c = record { safe = safe_name; one_segment = segments_name }
