use Rattle.depend_pull.proofs.Whole.{stays_passed}
use Rattle.depend_pull.proofs.laws.passed_places_stay_passed.Goals as goal

pub returns : goal.returns
returns c = stays_passed
