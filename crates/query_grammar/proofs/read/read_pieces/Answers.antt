use Rattle.std.proofs.Common.{rules, ◌+◌, ◌<◌, length, sym, ap, ◌∙◌, arith}
use Rattle.query_tree.specs.Pieces.{pieces_from}
use Rattle.query_tree.specs.declared.piece.Place.TheVariants.{Outside}
use Rattle.query_grammar.specs.Reading.{run}
use Rattle.query_grammar.specs.Views.{reader_view}
use Rattle.query_grammar.proofs.Turns.{run_goes, reading_begins}
use Rattle.query_grammar.proofs.read.read_pieces.Goals as goal

pub loop-rest-init : goal.loop-rest-init
loop-rest-init c = (omega arith, ap (λ s. run 0 s (pieces_from Outside c.args.text.now)) c.new-reader.ensures ∙ reading_begins c.args.text.now, search rules)

pub loop-rest-preserved : goal.loop-rest-preserved
loop-rest-preserved c =
    let split = c.split_piece-shape in
    let some : 0 < length c.loop-rest.rest.now = search rules in
    let turn = run_goes c.loop-rest.at (reader_view c.loop-rest.reader) c.loop-rest.place c.loop-rest.rest.now split.result.0 split.result.1.now split.result.2.now some split.ensures.shape split.ensures.piece split.ensures.behind (reader_view c.in_ok-reader.reader) c.in_ok-reader.ensures in (
      omega (arith, split.ensures.joined, c.loop-rest.invariant.0),
      ap (λ place. run (c.loop-rest.at + length split.result.1.now) (reader_view c.in_ok-reader.reader) (pieces_from place split.result.2.now)) c.next_place-place.ensures ∙ sym turn ∙ c.loop-rest.invariant.1,
      search rules,
    )
