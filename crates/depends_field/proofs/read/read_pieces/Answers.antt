use Rattle.std.proofs.Common.{arith, sym, ◌∙◌}
use Rattle.std.proofs.lemmas.List.{take_rest}
use Rattle.depends_field.proofs.Cuts.{one_piece_on}
use Rattle.depends_field.proofs.read.read_pieces.Goals as goal

pub loop-at-preserved : goal.loop-at-preserved
loop-at-preserved c =
    let rest = take_rest c.as_bytes-bytes.result.now c.loop-at.at in
    one_piece_on c.args.kind c.as_bytes-bytes.result.now c.loop-at.at c.loop-at.inside c.inside_after-inside.result _ c.first_piece-piece.result.now c.loop-at.state c.in-Some.state c.loop-at.invariant rest (omega (arith, c.first_piece-piece.ensures.some, c.first_piece-piece.ensures.within)) c.first_piece-piece.ensures.piece c.first_piece-piece.ensures.len c.first_piece-piece.ensures.within (sym c.in-Some.is ∙ c.in_ok-state.ensures) c.inside_after-inside.ensures
