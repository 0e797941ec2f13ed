use Rattle.ap_text.proofs.FrontLemmas.{front_is_name}
use Rattle.ap_text.proofs.laws.fronts_of_names.Goals as goal

pub returns : goal.returns
returns c = front_is_name
