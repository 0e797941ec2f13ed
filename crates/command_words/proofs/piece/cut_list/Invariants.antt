use Rattle.std.proofs.Common.{◌≡◌, ◌+◌, drop}
use Rattle.command_words.specs.Commands.{cut}
use Rattle.command_words.specs.Cutting.{cutting}
use Rattle.command_words.proofs.Parts.{whole}
use Rattle.command_words.proofs.piece.cut_list.Given as goal

abbrev pub invariant-loop-i : goal.invariant-loop-i
invariant-loop-i l = whole (cutting l.cutter) (cut (2 + l.i) (drop l.i l.words)) ≡ cut 2 l.words
