use Rattle.std.proofs.Common.{◌≡◌, take}
use Rattle.depends_field.proofs.alternative.copy_alternatives.Given as goal

abbrev pub invariant-loop-alternative : goal.invariant-loop-alternative
invariant-loop-alternative l = l.copies.items ≡ take l.alternative-index l.alternatives
