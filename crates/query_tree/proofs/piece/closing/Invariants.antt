use Rattle.std.proofs.Common.{◌≡◌, ◌+◌, drop, option_map, false}
use Rattle.query_tree.specs.Pieces.{closing}
use Rattle.query_tree.proofs.piece.closing.Given as goal

abbrev pub invariant-loop-c : goal.invariant-loop-c
invariant-loop-c l = (l.n ≡ l.c-index) × (option_map (λ k. l.n + k) (closing l.quote l.escaped (drop l.n l.text)) ≡ closing l.quote false l.text)
