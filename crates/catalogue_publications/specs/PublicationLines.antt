-- The lines that a publication is written by in a root.
use Rattle.std.specs.Prelude.{ℕ, zero, suc, ◌+◌, ℤ, pos, negsuc, List, [], ◌∷◌, ◌++◌, length, map, codes, Option, Some, None}
use Rattle.std.specs.List.{flat_map}
use Rattle.std.specs.Fmt.{decimal}
use Rattle.std.specs.Int.Digits.{digits_of}
use Rattle.package_core.specs.Card.{Card}
use Rattle.machine_state.specs.declared.limit.Kind.{Kind}
use Rattle.machine_state.specs.Words.{kind_word, place_text}
use Rattle.machine_state.specs.Values.{GenerationView, PublicationView}
use Rattle.catalogue_lines.specs.NameLines.{architectures_line}
use Rattle.catalogue_lines.specs.Pieces.{Piece, alone}
use Rattle.catalogue_lines.specs.SetLines.{set_pieces}

abbrev pub publications_line : ℕ → List ℕ
publications_line count = codes "publications " ++ decimal count

-- where it is published
abbrev pub publication_line : Option (List ℕ) × List ℕ → List ℕ
publication_line place = codes "publication " ++ place_text place

-- what its sources are
abbrev pub kind_line : Kind → List ℕ
kind_line kind = codes "kind " ++ kind_word kind

abbrev pub origin_line : List ℕ → List ℕ
origin_line text = codes "origin " ++ text

abbrev pub label_line : List ℕ → List ℕ
label_line text = codes "label " ++ text

abbrev pub suite_line : List ℕ → List ℕ
suite_line text = codes "suite " ++ text

abbrev pub codename_line : List ℕ → List ℕ
codename_line text = codes "codename " ++ text

abbrev pub serial_line : ℕ → List ℕ
serial_line serial = codes "serial " ++ decimal serial

-- the digits of a number, however many they are
abbrev pub numeral : ℕ → List ℕ
numeral zero = codes "0"
numeral (suc n) = map (λ digit. 48 + digit) (digits_of 10 (suc n))

abbrev pub sources_line : ℕ → List ℕ
sources_line count = codes "sources " ++ numeral count

-- a source: the component that it is published as, a blank, and its name
abbrev pub source_text : List ℕ × List ℕ → List ℕ
source_text source = source.0 ++ 32 ∷ source.1

abbrev pub source_line : List ℕ × List ℕ → List ℕ
source_line source = codes "source " ++ source_text source

-- the moment of a generation, in seconds since 1970, which is none before 1970
abbrev pub natural : ℤ → ℕ
natural (pos n) = n
natural (negsuc n) = 0

abbrev pub moment_of : GenerationView → ℕ
moment_of generation = natural generation.moment

abbrev pub current_line : ℕ → List ℕ
current_line moment = codes "current " ++ decimal moment

abbrev pub previous_line : ℕ → List ℕ
previous_line moment = codes "previous " ++ decimal moment

-- ---- pieces
-- the lists of a generation, in the order of its components
abbrev pub parts_pieces : List (List ℕ × List Card) → List Piece
parts_pieces parts = flat_map (λ part. set_pieces part.1) parts

-- a generation, whose moment is spelled so
abbrev pub generation_pieces : (ℕ → List ℕ) → GenerationView → List Piece
generation_pieces spelled generation = alone (spelled (moment_of generation)) ∷ parts_pieces generation.parts

-- the generation before the current one, where there is one
abbrev pub previous_pieces : Option GenerationView → List Piece
previous_pieces None = alone (codes "previous -") ∷ []
previous_pieces (Some generation) = generation_pieces previous_line generation

-- the sources: how many they are, and each of them
abbrev pub sources_pieces : List (List ℕ × List ℕ) → List Piece
sources_pieces sources = alone (sources_line (length sources)) ∷ map (λ source. alone (source_line source)) sources

-- a publication: its settings, its sources and its generations
unfoldable pub publication_pieces : PublicationView → List Piece
publication_pieces publication =
    alone (publication_line (publication.prefix, publication.dist)) ∷ alone (kind_line publication.kind) ∷ alone (origin_line publication.origin)
    ∷ alone (label_line publication.label) ∷ alone (suite_line publication.suite) ∷ alone (codename_line publication.codename)
    ∷ alone (architectures_line publication.architectures) ∷ alone (serial_line publication.serial)
    ∷ (sources_pieces publication.sources ++ (generation_pieces current_line publication.current ++ previous_pieces publication.previous))

-- the publications: how many they are, and each of them
unfoldable pub publications_pieces : List PublicationView → List Piece
publications_pieces publications = alone (publications_line (length publications)) ∷ flat_map publication_pieces publications
