use Rattle.std.proofs.Common.{◌≡◌, ◌≤◌, Some, map, take}
use Rattle.command_words.specs.Commands.{part, each_spelled}
use Rattle.command_value.specs.Plain.{plain}
use Rattle.command_words.proofs.list.read_pieces.Given as goal

abbrev pub invariant-loop-i : goal.invariant-loop-i
invariant-loop-i l = record { few : l.i ≤ 1000; read : each_spelled (map part (take l.i l.pieces)) ≡ Some (map plain l.commands.items) }
