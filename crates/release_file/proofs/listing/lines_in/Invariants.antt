use Rattle.std.proofs.Common.{◌≡◌, map}
use Rattle.release_file.proofs.listing.lines_in.Given as goal

abbrev pub invariant-loop-line : goal.invariant-loop-line
invariant-loop-line l = l.lines.items ≡ map (λ p. p.now) l.yielded
