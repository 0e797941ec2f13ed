use Rattle.std.proofs.Common.{◌≡◌, map}
use Rattle.command_table.proofs.flags.parts.Given as goal

abbrev pub invariant-loop-part : goal.invariant-loop-part
invariant-loop-part l = l.texts.items ≡ map (λ p. p.now) l.yielded
