use Rattle.std.proofs.Common.{◌≡◌, length}
use Rattle.std.specs.Ordering.{nat_cmp}
use Rattle.std.specs.Cmp.Lexicographic.{slice_cmp}
use Rattle.control_stanza.specs.Written.{stanza_text}
use Rattle.package_core.specs.Left.{left as text_left}
use Rattle.package_core.proofs.bytes.compare_fields.Given as goal

abbrev pub invariant-loop-piece : goal.invariant-loop-piece
invariant-loop-piece l = slice_cmp nat_cmp (text_left l.one) (text_left l.other) ≡ slice_cmp nat_cmp (stanza_text l.a) (stanza_text l.b)

abbrev pub decreases-loop-piece : goal.decreases-loop-piece
decreases-loop-piece l = length (text_left l.one)
