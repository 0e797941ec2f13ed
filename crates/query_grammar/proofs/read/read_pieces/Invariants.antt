use Rattle.std.proofs.Common.{◌≡◌, ◌+◌, length}
use denote.Shadow.{shadow}
use denote.Text.{Utf8}
use Rattle.query_tree.specs.Pieces.{pieces_from}
use Rattle.query_grammar.specs.Reading.{run, reading}
use Rattle.query_grammar.specs.Views.{reader_view}
use Rattle.query_grammar.proofs.read.read_pieces.Given as goal

abbrev pub invariant-loop-rest : goal.invariant-loop-rest
invariant-loop-rest l =
    (l.at + length l.rest ≡ length l.text) × (run l.at (reader_view l.reader) (pieces_from l.place l.rest) ≡ reading l.text) × shadow (Utf8 l.rest)

abbrev pub decreases-loop-rest : goal.decreases-loop-rest
decreases-loop-rest l = length l.rest
