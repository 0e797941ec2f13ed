use Rattle.depend_pull.proofs.Whole.{nothing_left}
use Rattle.depend_pull.proofs.laws.pulls_leave_nothing_to_take.Goals as goal

pub returns : goal.returns
returns c = nothing_left
