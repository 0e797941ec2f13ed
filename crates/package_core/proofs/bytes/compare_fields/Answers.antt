use Rattle.std.proofs.Common.{sym, ◌∙◌}
use Rattle.package_core.specs.Left.{left}
use Rattle.package_core.proofs.PieceLemmas.{goes_on, is_over}
use Rattle.package_core.proofs.bytes.compare_fields.Goals as goal

pub returns-in_default-at_next_piece : goal.returns-in_default-at_next_piece
returns-in_default-at_next_piece c = goes_on c.in-Some.piece (left c.loop-piece.one) (left c.loop-piece.other) c.in-Some.ensures c.in_default-at_next_piece.ensures ∙ c.loop-piece.invariant

pub returns-then-is_some : goal.returns-then-is_some
returns-then-is_some c = is_over c.at_next_piece-2.result (left c.loop-piece.one) (left c.loop-piece.other) c.in_default.ensures c.at_next_piece-2.ensures (sym c.is_some.ensures ∙ c.if-is_some.true) ∙ c.loop-piece.invariant
