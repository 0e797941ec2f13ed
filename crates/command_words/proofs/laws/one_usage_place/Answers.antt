use Rattle.command_words.proofs.OnePlace.{one_place}
use Rattle.command_words.proofs.laws.one_usage_place.Goals as goal

pub returns : goal.returns
returns c = one_place
