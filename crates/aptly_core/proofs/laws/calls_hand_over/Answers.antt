use Rattle.run_model.proofs.Opens.{hand_over_law}
use Rattle.aptly_core.specs.Machine.{machine}
use Rattle.aptly_core.proofs.Lawful.{lawful}
use Rattle.aptly_core.proofs.laws.calls_hand_over.Goals as goal

pub returns : goal.returns
returns c = λ given. hand_over_law (machine given) (lawful given)
