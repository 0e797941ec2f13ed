-- The place of a fault: how far some query agrees with a text, piece by piece.
use Rattle.std.specs.Prelude.{◌≡◌, ℕ, List, [], ◌++◌, length}
use Rattle.query_tree.specs.Tree.{Tree}
use Rattle.query_tree.specs.Pieces.{Piece, pieces, joined}
use Rattle.query_tree.specs.Grammar.{QueryText}

-- the pieces of some query begin with these
abbrev pub CanBegin : ℕ → List Piece → Type 0
CanBegin levels ps = (text : List ℕ) × (rest : List Piece) × (t : Tree) × (pieces text ≡ ps ++ rest) × QueryText levels text t

-- The place is the length of the longest front that is made of whole pieces and with whose pieces some query begins.
pub record IsPlace (levels : ℕ) (text : List ℕ) (place : ℕ) : Type 0 where
  pub front : List Piece
  pub back : List Piece
  pub split : pieces text ≡ front ++ back
  pub size : place ≡ length (joined front)
  pub begins : CanBegin levels front
  pub longest : (more : List Piece) (rest : List Piece) → back ≡ more ++ rest → CanBegin levels (front ++ more) → more ≡ []
