use Rattle.std.proofs.Common.{arith, sym, ◌∙◌, length-take-le}
use Rattle.depends_field.proofs.Cuts.{piece_len_in}
use Rattle.depends_field.proofs.pieces.first_piece.Goals as goal

pub slice_bounds-result-end : goal.slice_bounds-result-end
slice_bounds-result-end c =
    let inside = piece_len_in c.args.inside c.args.text.now c.requires in
    sym (length-take-le c.piece_len.result c.args.text.now (omega (arith, c.piece_len.ensures, inside.1)))

pub returns-clause-some : goal.returns-clause-some
returns-clause-some c =
    let inside = piece_len_in c.args.inside c.args.text.now c.requires in
    omega (arith, c.piece_len.ensures, inside.0, inside.1, length-take-le c.piece_len.result c.args.text.now (omega (arith, c.piece_len.ensures, inside.1)))

pub returns-clause-len : goal.returns-clause-len
returns-clause-len c =
    let inside = piece_len_in c.args.inside c.args.text.now c.requires in
    length-take-le c.piece_len.result c.args.text.now (omega (arith, c.piece_len.ensures, inside.1)) ∙ c.piece_len.ensures
