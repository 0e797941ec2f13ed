use Rattle.std.proofs.Common.{◌≡◌, ◌+◌, drop}
use Rattle.std.specs.List.{prefix_len}
use Rattle.query_tree.specs.Pieces.{is_word}
use Rattle.query_tree.proofs.piece.word_characters.Given as goal

abbrev pub invariant-loop-c : goal.invariant-loop-c
invariant-loop-c l = (l.n ≡ l.c-index) × (l.n + prefix_len is_word (drop l.n l.text) ≡ prefix_len is_word l.text)
