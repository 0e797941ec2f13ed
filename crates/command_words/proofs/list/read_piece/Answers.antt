use Rattle.command_words.specs.Commands.{part}
use Rattle.command_words.proofs.Each.{place_in}
use Rattle.command_words.proofs.list.read_piece.Goals as goal

pub returns-in-Err-At-clause-fault : goal.returns-in-Err-At-clause-fault
returns-in-Err-At-clause-fault c =
    place_in (part c.args.piece.now) c.as_slice.result.now c.in-Err-At.place c.as_slice.ensures.value (rw c.in-Err-At.field-0-is at c.in-Err-At.ensures.fault)
