use Rattle.command_words.proofs.Closed.{begins-from_command}
use Rattle.command_words.proofs.Completed.{command_from_begins}
use Rattle.command_words.proofs.laws.fronts_complete.Goals as goal

pub returns : goal.returns
returns c = record { closed = begins-from_command; completed = command_from_begins }
