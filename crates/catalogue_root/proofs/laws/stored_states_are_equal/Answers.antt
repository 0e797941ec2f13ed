use Rattle.catalogue_root.proofs.LoadLemmas.{stored_once}
use Rattle.catalogue_root.proofs.laws.stored_states_are_equal.Goals as goal

pub returns : goal.returns
returns c = stored_once
