use Rattle.aptly_core.proofs.CallLemmas.{law_of_words}
use Rattle.aptly_core.proofs.laws.calls_that_say_hand_over.Goals as goal

pub returns : goal.returns
returns c = law_of_words
