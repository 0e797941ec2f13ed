-- The replies to commands on publications and on the store, as bytes.
use Rattle.std.specs.Prelude.{ℕ, List, ◌++◌, length, codes, Option}
use Rattle.std.specs.List.{flat_map, zip}
use Rattle.std.specs.Fmt.{decimal}
use Rattle.package_core.specs.Card.{Card}
use Rattle.machine_state.specs.declared.limit.Kind.{Kind}
use Rattle.machine_state.specs.Values.{PublicationView}
use Rattle.reply_text.specs.Words.{line, kind_word, prefix_word, place_text, names_behind}

-- a part of a generation: its component and its packages
abbrev Part : Type 0
Part = List ℕ × List Card

-- how many packages the parts have together
abbrev pub part_sum : List Part → ℕ
part_sum parts = length (flat_map (λ part. part.1) parts)

-- `Published . stable: 700 packages, serial 2.`
unfoldable pub published : PublicationView → List ℕ
published publication =
    line (codes "Published " ++ (place_text (publication.prefix, publication.dist) ++ (codes ": "
    ++ (decimal (part_sum publication.current.parts) ++ (codes " packages, serial " ++ (decimal publication.serial ++ codes "."))))))

-- `Publication . stable dropped.`
unfoldable pub publication_dropped : Option (List ℕ) → List ℕ → List ℕ
publication_dropped prefix dist = line (codes "Publication " ++ (place_text (prefix, dist) ++ codes " dropped."))

-- ` * . stable serial 2`
unfoldable pub publication_line : PublicationView → List ℕ
publication_line publication = line (codes " * " ++ (place_text (publication.prefix, publication.dist) ++ (codes " serial " ++ decimal publication.serial)))

-- how many publications there are, and each
unfoldable pub publish_list : List PublicationView → List ℕ
publish_list publications = line (codes "Publications: " ++ decimal (length publications)) ++ flat_map publication_line publications

-- ` main: full [700]`: a source, as which component, and how many packages it has
unfoldable pub part_line : List ℕ × List ℕ → Part → List ℕ
part_line source part = line (codes " " ++ (source.0 ++ (codes ": " ++ (source.1 ++ (codes " [" ++ (decimal (length part.1) ++ codes "]"))))))

-- a line for each source, beside the part that was made of it
abbrev pub part_lines : List (List ℕ × List ℕ) → List Part → List ℕ
part_lines sources parts = flat_map (λ both. part_line both.0 both.1) (zip sources parts)

-- where it is published, and what its sources are, each on a line
unfoldable pub origin_lines : Option (List ℕ) → List ℕ → Kind → List ℕ
origin_lines prefix dist kind =
    line (codes "Prefix: " ++ prefix_word prefix) ++ (line (codes "Distribution: " ++ dist) ++ line (codes "Kind: " ++ kind_word kind))

-- its architectures, and the serial and the date of what stands there
unfoldable pub standing_lines : List (List ℕ) → ℕ → List ℕ → List ℕ
standing_lines architectures serial date =
    line (codes "Architectures:" ++ names_behind architectures) ++ line (codes "Serial: " ++ decimal serial) ++ line (codes "Date: " ++ date)

-- what was set for a publication, what stands there, and its sources
unfoldable pub publish_show : PublicationView → List ℕ → List ℕ
publish_show publication date =
    origin_lines publication.prefix publication.dist publication.kind ++ standing_lines publication.architectures publication.serial date
    ++ part_lines publication.sources publication.current.parts

-- `Cleanup: 500 packages removed, 200 kept.`
unfoldable pub cleaned : ℕ → ℕ → List ℕ
cleaned removed kept = line (codes "Cleanup: " ++ (decimal removed ++ (codes " packages removed, " ++ (decimal kept ++ codes " kept."))))
