use Rattle.aptly_core.proofs.CallLemmas.{law_of_empty_store}
use Rattle.aptly_core.proofs.laws.calls_begin_on_nothing.Goals as goal

pub returns : goal.returns
returns c = law_of_empty_store
