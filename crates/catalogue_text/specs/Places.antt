-- Where the parts of a root begin.
use Rattle.std.specs.Prelude.{ℕ, suc, List, ◌++◌}
use Rattle.machine_state.specs.Values.{StateView}
use Rattle.catalogue_lines.specs.Lines.{line_ends}
use Rattle.catalogue_lines.specs.Pieces.{Piece, joined}
use Rattle.catalogue_lines.specs.KnownForms.{known_pieces}
use Rattle.catalogue_text.specs.Root.{mirrors_pieces, repos_pieces, snapshots_pieces}

-- what stands before the publications
unfoldable pub front_pieces : StateView → List Piece
front_pieces state = known_pieces state.known ++ (mirrors_pieces state.mirrors ++ (repos_pieces state.repos ++ snapshots_pieces state.snapshots))

-- the number, from 1, of the line that counts the publications
unfoldable pub publications_place : StateView → ℕ
publications_place state = suc (line_ends (joined (front_pieces state)))
