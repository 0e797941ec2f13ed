use Rattle.deb_version.proofs.CutLaws.{cuts_joined, cuts_turn}
use Rattle.deb_version.proofs.laws.version_part_is_made_of_its_cuts.Goals as goal

pub returns-clause-joined : goal.returns-clause-joined
returns-clause-joined c = cuts_joined

pub returns-clause-turns : goal.returns-clause-turns
returns-clause-turns c = cuts_turn
