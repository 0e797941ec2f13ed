-- The pieces that a root text is made of: lines, and packages, each of which has a line that tells the length of its text.
use Rattle.std.specs.Prelude.{◌≡◌, ℕ, List, [], ◌∷◌, ◌++◌, length, codes}
use Rattle.std.specs.List.{flat_map}
use Rattle.std.specs.Fmt.{decimal}
use Rattle.package_core.specs.Card.{Card, package_text}
use Rattle.package_core.specs.Whole.{IsWhole}
use Rattle.catalogue_lines.specs.Lines.{IsLine}

-- a line without its line end; a package
pub data Piece : Type 0 where
  alone : List ℕ → Piece
  packed : Card → Piece

-- the line before the text of a package: how many bytes the text has
abbrev pub package_line : ℕ → List ℕ
package_line size = codes "package " ++ decimal size

-- the text of a piece: the line with its line end, or the package's line and the package's text
abbrev pub piece_text : Piece → List ℕ
piece_text (alone line) = line ++ 10 ∷ []
piece_text (packed p) = package_line (length (package_text p)) ++ 10 ∷ package_text p

-- the text of pieces one behind another
abbrev pub joined : List Piece → List ℕ
joined pieces = flat_map piece_text pieces

-- The text begins with this piece, and this stands behind it. Of a line the line end may be wanting where the text ends
-- there; a package has to be whole, in itself and in its text.
abbrev pub Begins : List ℕ → Piece → List ℕ → Type 0
Begins text (alone line) rest = IsLine text line rest
Begins text (packed p) rest = IsWhole p × (text ≡ piece_text (packed p) ++ rest)

-- the text begins with these pieces, and this stands behind them
abbrev pub Takes : List ℕ → List Piece → List ℕ → Type 0
Takes text [] rest = text ≡ rest
Takes text (x ∷ xs) rest = (behind : List ℕ) × Begins text x behind × Takes behind xs rest
