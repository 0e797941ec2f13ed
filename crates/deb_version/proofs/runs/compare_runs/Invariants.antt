use Rattle.std.proofs.Common.{◌≡◌, length}
use Rattle.std.specs.Ordering.{nat_cmp}
use Rattle.std.specs.Cmp.Lexicographic.{slice_cmp}
use Rattle.deb_version.specs.Cuts.{ranks}
use Rattle.deb_version.proofs.runs.compare_runs.Given as goal

abbrev pub invariant-loop-left : goal.invariant-loop-left
invariant-loop-left l = slice_cmp nat_cmp (ranks l.left) (ranks l.right) ≡ slice_cmp nat_cmp (ranks l.a) (ranks l.b)

abbrev pub decreases-loop-left : goal.decreases-loop-left
decreases-loop-left l = length l.left
