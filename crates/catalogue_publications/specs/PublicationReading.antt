-- The publications of a root as they have to be.
use Rattle.std.specs.Prelude.{◌≡◌, ◌≤◌, ◌^◌, ◌++◌, ◌==◌, not, ◌&&◌, ◌||◌, nat_eq, nat_lt, ℕ, pos, Bool, true, false, List, [], ◌∷◌, length, Option, Some, None, IsTrue, All}
use Rattle.std.specs.List.{list_all}
use Rattle.ap_text.specs.Decimals.{is_digit}
use Rattle.package_core.specs.Card.{Card}
use Rattle.machine_state.specs.declared.limit.Kind.{Kind}
use Rattle.machine_state.specs.declared.limit.Limit.TheVariants.{Packages, Publications, Date}
use Rattle.machine_state.specs.declared.repo.Repo.{Repo}
use Rattle.machine_state.specs.declared.snapshot.Snapshot.{Snapshot}
use Rattle.machine_state.specs.Limits.{limit_number}
use Rattle.machine_state.specs.Publications.{is_published, components_of}
use Rattle.machine_state.specs.Texts.{IsTitle}
use Rattle.machine_state.specs.Values.{GenerationView, PublicationView}
use Rattle.catalogue_publications.specs.declared.publication_values.Head.{Head}
use Rattle.catalogue_publications.specs.declared.publication_values.Titles.{Titles}
use Rattle.catalogue_lines.specs.Pieces.{Piece, alone}
use Rattle.catalogue_lines.specs.SetLines.{id_of}
use Rattle.machine_state.specs.Words.{place_text}
use Rattle.catalogue_publications.specs.PublicationLines.{moment_of, publication_line, kind_line, origin_line, label_line, suite_line, codename_line, current_line, sources_pieces, generation_pieces, previous_pieces}
use Rattle.catalogue_publications.specs.PublicationGrammar.{IsNextPlace, ArePublished, IsSerial, IsNextSource, MayJoinPart, published, has_source_in}
use Rattle.catalogue_lines.specs.Reading.{Each, ReadsLine}

-- digits as a number is written, however many they are
abbrev pub has_form : List ℕ → Bool
has_form [] = false
has_form (b ∷ bs) = is_digit b && list_all is_digit bs && (not (b == 48) || nat_eq (length bs) 0)

-- this is the number, or it is 2^64 or greater
abbrev pub IsCount : ℕ → Option ℕ → Type 0
IsCount n None = 2 ^ 64 ≤ n
IsCount n (Some k) = k ≡ n

-- the texts of the Release of a publication at this place
pub record GoodTitles (place : Option (List ℕ) × List ℕ) (titles : Titles) : Type 0 where
  pub origin : IsTitle (place_text place) titles.origin
  pub label : IsTitle (place_text place) titles.label
  pub suite : IsTitle place.1 titles.suite
  pub codename : IsTitle place.1 titles.codename

abbrev pub titles_pieces : Titles → List Piece
titles_pieces titles = alone (origin_line titles.origin) ∷ alone (label_line titles.label) ∷ alone (suite_line titles.suite) ∷ alone (codename_line titles.codename) ∷ []

abbrev pub head_pieces : Head → List Piece
head_pieces head = alone (publication_line head.place) ∷ alone (kind_line head.kind) ∷ titles_pieces head.titles

abbrev pub contents_pieces : PublicationView → List Piece
contents_pieces publication = sources_pieces publication.sources ++ (generation_pieces current_line publication.current ++ previous_pieces publication.previous)

-- what is published where, behind the publications before it
pub record GoodHead (before : List PublicationView) (head : Head) : Type 0 where
  pub place : IsNextPlace before head.place
  pub kind : IsTrue (is_published head.kind)
  pub titles : GoodTitles head.place head.titles

-- these repositories and snapshots have what a publication of this kind names so
abbrev pub IsThere : List Repo → List Snapshot → Kind → List ℕ → Type 0
IsThere repos snapshots kind name = IsTrue (has_source_in repos snapshots kind name)

-- what sources are sorted by
abbrev pub component_of : List ℕ × List ℕ → List ℕ
component_of source = source.0

-- sources that are there
abbrev pub GoodSources : (List ℕ → Type 0) → List (List ℕ × List ℕ) → Type 0
GoodSources Has sources = Each (IsNextSource Has) [] sources

-- one member more of a part, and the text behind its line
abbrev pub AddsPartMember : List Card → List (List ℕ) → List Card → List ℕ → List Card → List ℕ → Type 0
AddsPartMember known architectures before text after rest = (p : Card) × ReadsLine id_of (MayJoinPart known architectures before) text p rest × (after ≡ before ++ p ∷ [])

-- the list of a part of these architectures
abbrev pub GoodPartSet : List Card → List (List ℕ) → List Card → Type 0
GoodPartSet known architectures list = (length list ≤ limit_number Packages) × Each (MayJoinPart known architectures) [] list

-- a list for each of these components
pub record GoodParts (known : List Card) (architectures components : List (List ℕ)) (parts : List (List ℕ × List Card)) : Type 0 where
  pub named : components_of parts ≡ components
  pub each : All (λ part. GoodPartSet known architectures part.1) parts

-- a generation of these architectures and components
pub record GoodGeneration (known : List Card) (architectures components : List (List ℕ)) (generation : GenerationView) : Type 0 where
  pub moment : generation.moment ≡ pos (moment_of generation)
  pub early : moment_of generation ≤ limit_number Date
  pub parts : GoodParts known architectures components generation.parts

-- a generation before the current one, or none
abbrev pub GoodPrevious : List Card → List (List ℕ) → List (List ℕ) → Bool → Option GenerationView → Type 0
GoodPrevious known architectures components false None = Unit {0}
GoodPrevious known architectures components false (Some generation) = ⊥
GoodPrevious known architectures components true None = ⊥
GoodPrevious known architectures components true (Some generation) = GoodGeneration known architectures components generation

-- the texts of a publication's Release, and what is published where
abbrev pub titles_of : PublicationView → Titles
titles_of publication = record { origin = publication.origin; label = publication.label; suite = publication.suite; codename = publication.codename }

abbrev pub head_of : PublicationView → Head
head_of publication = record { place = (publication.prefix, publication.dist); kind = publication.kind; titles = titles_of publication }

-- the sources and the generations of a publication whose other settings are these
pub record GoodContents (known : List Card) (has : Kind → List ℕ → Bool) (head : Head) (architectures : List (List ℕ)) (serial : ℕ) (publication : PublicationView) : Type 0 where
  pub sources : GoodSources (λ name. IsTrue (has head.kind name)) publication.sources
  pub current : GoodGeneration known architectures (components_of publication.sources) publication.current
  pub previous : GoodPrevious known architectures (components_of publication.sources) (nat_lt 1 serial) publication.previous
  pub made : published head architectures serial publication.sources publication.current publication.previous ≡ publication

-- a publication as it has to be behind those before it
pub record GoodPublication (known : List Card) (has : Kind → List ℕ → Bool) (before : List PublicationView) (publication : PublicationView) : Type 0 where
  pub head : GoodHead before (head_of publication)
  pub architectures : ArePublished publication.architectures
  pub serial : IsSerial publication.serial
  pub contents : GoodContents known has (head_of publication) publication.architectures publication.serial publication

-- the publications of a root that knows these packages and has these repositories and snapshots
abbrev pub GoodPublications : List Card → List Repo → List Snapshot → List PublicationView → Type 0
GoodPublications known repos snapshots publications =
    (length publications ≤ limit_number Publications) × Each (GoodPublication known (has_source_in repos snapshots)) [] publications
