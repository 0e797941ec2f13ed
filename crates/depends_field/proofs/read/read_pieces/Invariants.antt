use Rattle.std.proofs.Common.{◌≡◌, ℕ, ◌≤◌, ◌-◌, List, Some, false, length, drop}
use Rattle.depends_field.specs.Pieces.{IsCut}
use Rattle.depends_field.specs.Reading.{start, run}
use Rattle.depends_field.proofs.read.read_pieces.Given as goal

abbrev pub invariant-loop-at : goal.invariant-loop-at
invariant-loop-at l =
    (done : List (List ℕ)) × IsCut false l.bytes done l.inside (drop l.at l.bytes) × (run l.kind start done ≡ Some l.state) × (l.at ≤ length l.bytes)

abbrev pub decreases-loop-at : goal.decreases-loop-at
decreases-loop-at l = length l.bytes - l.at
