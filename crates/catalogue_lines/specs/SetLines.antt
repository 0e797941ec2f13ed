-- The lines that a list of packages is written by in a root.
use Rattle.std.specs.Prelude.{ℕ, List, ◌∷◌, ◌++◌, length, map, codes}
use Rattle.std.specs.Fmt.{decimal}
use Rattle.hex.specs.Hex.{encode_lower}
use Rattle.sha2.specs.Sha256.{sha256}
use Rattle.package_core.specs.Card.{Card, package_text}
use Rattle.catalogue_lines.specs.Pieces.{Piece, alone}

-- the id of a package: the SHA-256 (FIPS 180-4) of its text, in lower case
unfoldable pub id_of : Card → List ℕ
id_of p = encode_lower (sha256 (package_text p))

abbrev pub set_line : ℕ → List ℕ
set_line count = codes "set " ++ decimal count

-- a list of packages: how many they are, and the id of each
unfoldable pub set_pieces : List Card → List Piece
set_pieces list = alone (set_line (length list)) ∷ map (λ p. alone (id_of p)) list
