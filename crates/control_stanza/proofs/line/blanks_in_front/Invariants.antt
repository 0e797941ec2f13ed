use Rattle.std.proofs.Common.{◌≡◌, ◌<◌, ◌-◌, drop, get_or}
use Rattle.control_stanza.specs.Lines.{trim_start}
use Rattle.control_stanza.proofs.line.blanks_in_front.Given as goal

abbrev pub invariant-loop-n : goal.invariant-loop-n
invariant-loop-n l = (trim_start (drop l.n l.text) ≡ trim_start l.text) × (0 < l.n → get_or l.text (l.n - 1) 0 < 128)
