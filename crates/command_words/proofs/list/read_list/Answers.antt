use Rattle.std.proofs.Common.{◌∙◌, ap, map, arith}
use Rattle.command_words.specs.Commands.{part}
use Rattle.command_words.proofs.Each.{parts_fit}
use Rattle.command_words.proofs.list.read_list.Goals as goal

pub read_pieces-requires : goal.read_pieces-requires
read_pieces-requires c = parts_fit c.args.words.now c.as_slice.result.now (omega arith) (ap (map part) c.as_slice.ensures.value ∙ c.in_ok-pieces.ensures)
