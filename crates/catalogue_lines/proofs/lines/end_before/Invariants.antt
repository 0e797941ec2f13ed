use Rattle.std.proofs.Common.{◌≡◌, take, false}
use Rattle.std.specs.Bool.{◌==◌}
use Rattle.std.specs.List.{list_any}
use Rattle.catalogue_lines.proofs.lines.end_before.Given as goal

abbrev pub invariant-loop-i : goal.invariant-loop-i
invariant-loop-i l = list_any (λ b. b == l.stop) (take l.i l.text) ≡ false
