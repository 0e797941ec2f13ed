use Rattle.std.proofs.Common.{◌≡◌, ◌<◌, take, subst, sym, arith}
use Rattle.std.proofs.lemmas.Grind.{common_steps}
use Rattle.std.specs.Str.{IsUtf8, IsCharBoundary}
use Rattle.query_tree.specs.Pieces.{quoted_value, IfQuoted}
use Rattle.query_tree.proofs.Cuts.{cut_boundary, cut_positive, cut_quoted}
use Rattle.query_grammar.proofs.read.split_piece.Goals as goal

pub range-requires-clause-end_boundary : goal.range-requires-clause-end_boundary
range-requires-clause-end_boundary c =
    subst (λ cut. IsCharBoundary c.args.text.now cut.size) (sym c.cut_at-cut.ensures) (cut_boundary c.args.place c.args.text.now c.utf8.text c.requires)

pub range_from-requires : goal.range_from-requires
range_from-requires c = λ _.
    subst (λ cut. IsCharBoundary c.args.text.now cut.size) (sym c.cut_at-cut.ensures) (cut_boundary c.args.place c.args.text.now c.utf8.text c.requires)

pub returns-clause-some : goal.returns-clause-some
returns-clause-some c =
    let some : 0 < c.cut_at-cut.result.size = subst (λ cut. 0 < cut.size) (sym c.cut_at-cut.ensures) (cut_positive c.args.place c.args.text.now c.requires) in
    omega (arith, c.range_from.ensures.len)

pub returns-clause-joined : goal.returns-clause-joined
returns-clause-joined c = omega (arith, c.range_from.ensures.len, c.range.ensures.len)

pub returns-clause-quoted : goal.returns-clause-quoted
returns-clause-quoted c =
    let piece : c.range.result.now ≡ take c.cut_at-cut.result.size c.args.text.now = grind (arith, common_steps) in
    subst (λ p. IfQuoted c.cut_at-cut.result.shape (IsUtf8 (quoted_value p))) (sym piece)
    (subst (λ cut. IfQuoted cut.shape (IsUtf8 (quoted_value (take cut.size c.args.text.now)))) (sym c.cut_at-cut.ensures) (cut_quoted c.args.place c.args.text.now c.utf8.text c.requires))
