use Rattle.std.proofs.Common.{◌≡◌, ◌+◌, length}
use Rattle.deb_version.specs.Cuts.{part_cmp}
use Rattle.deb_version.proofs.runs.compare_parts.Given as goal

abbrev pub invariant-loop-left : goal.invariant-loop-left
invariant-loop-left l = part_cmp l.left l.right ≡ part_cmp l.a l.b

abbrev pub decreases-loop-left : goal.decreases-loop-left
decreases-loop-left l = length l.left + length l.right
