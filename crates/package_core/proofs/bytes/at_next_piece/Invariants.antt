use Rattle.std.proofs.Common.{◌≡◌, length}
use Rattle.package_core.specs.Left.{left as text_left, parts_behind}
use Rattle.package_core.proofs.bytes.at_next_piece.Given as goal

abbrev pub invariant-loop-rest : goal.invariant-loop-rest
invariant-loop-rest l = text_left l.rest ≡ text_left l.left

abbrev pub decreases-loop-rest : goal.decreases-loop-rest
decreases-loop-rest l = parts_behind l.rest.part (length l.rest.fields.now)
