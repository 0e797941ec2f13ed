use Rattle.std.proofs.Common.{◌≡◌, take}
use Rattle.mirror_ops.proofs.names.set_of.Given as goal

abbrev pub invariant-loop-text : goal.invariant-loop-text
invariant-loop-text l = l.words.items ≡ take l.text-index l.texts
