use Rattle.catalogue_root.proofs.LoadLemmas.{law_of_open}
use Rattle.catalogue_root.proofs.laws.law_of_open_stores.Goals as goal

pub returns : goal.returns
returns c = law_of_open
