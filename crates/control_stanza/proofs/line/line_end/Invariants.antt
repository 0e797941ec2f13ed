use Rattle.std.proofs.Common.{◌≡◌, take, false}
use Rattle.std.specs.Bool.{◌==◌}
use Rattle.std.specs.List.{list_any}
use Rattle.control_stanza.proofs.line.line_end.Given as goal

abbrev pub invariant-loop-n : goal.invariant-loop-n
invariant-loop-n l = list_any (λ c. c == 10) (take l.n l.text) ≡ false
