use Rattle.std.proofs.Common.{◌≡◌, ◌<◌, ◌≤◌, take, get_or, length}
use Rattle.control_stanza.specs.Lines.{trim_end}
use Rattle.control_stanza.proofs.line.length_without_blanks.Given as goal

abbrev pub invariant-loop-n : goal.invariant-loop-n
invariant-loop-n l = (l.n ≤ length l.text) × (trim_end (take l.n l.text) ≡ trim_end l.text) × (l.n < length l.text → get_or l.text l.n 0 < 128)

abbrev pub decreases-loop-n : goal.decreases-loop-n
decreases-loop-n l = l.n
