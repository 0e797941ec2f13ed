-- The packages of a root: their pieces, and what can stand first among these.
use Rattle.std.specs.Prelude.{◌≤◌, ℕ, List, [], ◌∷◌, ◌++◌, length, map, codes, All}
use Rattle.std.specs.Fmt.{decimal}
use Rattle.package_core.specs.Card.{Card}
use Rattle.package_core.specs.Order.{package_cmp}
use Rattle.package_list.specs.Sorted.{AllLess}
use Rattle.machine_state.specs.declared.limit.Limit.TheVariants.{Known, Catalogue, File}
use Rattle.machine_state.specs.Limits.{limit_number}
use Rattle.machine_state.specs.State.{text_length}
use Rattle.catalogue_lines.specs.Pieces.{Piece, alone, packed}
use Rattle.catalogue_lines.specs.PartForms.{Fixed, Series, Count}

abbrev pub known_line : ℕ → List ℕ
known_line count = codes "known " ++ decimal count

-- the first line, and the packages: how many they are, and each of them
unfoldable pub known_pieces : List Card → List Piece
known_pieces known = alone (codes "aptly root 0") ∷ alone (known_line (length known)) ∷ map packed known

-- a package that comes after those before it
abbrev pub NextPackage : List Card → (Card → List Piece → Type 0) → List Piece → Type 0
NextPackage before Next [] = Unit {0}
NextPackage before Next (alone line ∷ pieces) = ⊥
NextPackage before Next (packed p ∷ pieces) = AllLess package_cmp before p × Next p pieces

-- the limits that are kept only at the end: on the length of all package texts, and on the size of each file
pub record IsWithinLimits (known : List Card) : Type 0 where
  pub files : All (λ p. p.said.size ≤ limit_number File) known
  pub texts : text_length known ≤ limit_number Catalogue

-- the packages of a root
unfoldable pub KnownPart : (List Card → List Piece → Type 0) → List Piece → Type 0
KnownPart Next =
    Fixed (codes "aptly root 0") (Count known_line (limit_number Known) (λ n. Series n NextPackage [] Next))
