use Rattle.std.proofs.Common.{◌≡◌, ◌≤◌, take}
use Rattle.catalogue_lines.specs.Lines.{line_ends}
use Rattle.catalogue_lines.proofs.lines.line_ends.Given as goal

abbrev pub invariant-loop-b : goal.invariant-loop-b
invariant-loop-b l = (l.count ≡ line_ends (take l.b-index l.text)) × (l.count ≤ l.b-index)
