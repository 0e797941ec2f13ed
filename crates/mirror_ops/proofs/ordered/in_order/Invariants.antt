use Rattle.std.proofs.Common.{◌≡◌, [], take}
use Rattle.std.specs.Ordering.{nat_cmp}
use Rattle.std.specs.Cmp.Lexicographic.{slice_cmp}
use Rattle.package_list.specs.Sorted.{union}
use Rattle.mirror_ops.proofs.ordered.in_order.Given as goal

abbrev pub invariant-loop-word : goal.invariant-loop-word
invariant-loop-word l = l.set.keys ≡ union (slice_cmp nat_cmp) [] (take l.word-index l.words)
