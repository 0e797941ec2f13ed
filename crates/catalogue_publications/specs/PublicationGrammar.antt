-- What can stand first in the publications of a root.
use Rattle.std.specs.Prelude.{◌≡◌, ◌≢◌, ◌≤◌, ℕ, pos, nat_lt, Bool, true, false, List, [], ◌∷◌, codes, Option, Some, None, IsTrue, IfSome, All}
use Rattle.std.specs.declared.cmp.Ordering.TheVariants.{Less}
use Rattle.std.specs.Ordering.{nat_cmp}
use Rattle.std.specs.Cmp.Lexicographic.{slice_cmp}
use Rattle.ap_text.specs.Names.{is_component}
use Rattle.package_core.specs.Card.{Card}
use Rattle.machine_state.specs.declared.limit.Kind.{Kind}
use Rattle.machine_state.specs.declared.limit.Limit.TheVariants.{Packages, Publications, Serial, Date}
use Rattle.machine_state.specs.declared.repo.Repo.{Repo}
use Rattle.machine_state.specs.declared.snapshot.Snapshot.{Snapshot}
use Rattle.machine_state.specs.Limits.{limit_number}
use Rattle.machine_state.specs.Publications.{is_published, is_for, components_of}
use Rattle.machine_state.specs.State.{place_cmp, has_source, empty}
use Rattle.machine_state.specs.Texts.{IsTitle, AreNames, is_listed, is_prefix}
use Rattle.machine_state.specs.Values.{GenerationView, PublicationView}
use Rattle.catalogue_publications.specs.declared.publication_values.Head.{Head}
use Rattle.catalogue_publications.specs.declared.publication_values.Titles.{Titles}
use Rattle.catalogue_lines.specs.Pieces.{Piece}
use Rattle.catalogue_lines.specs.SetLines.{id_of, set_line}
use Rattle.catalogue_lines.specs.NameLines.{architectures_line}
use Rattle.machine_state.specs.Words.{place_text}
use Rattle.catalogue_publications.specs.PublicationLines.{publications_line, publication_line, kind_line, origin_line, label_line, suite_line, codename_line, serial_line, sources_line, source_line, current_line, previous_line}
use Rattle.catalogue_lines.specs.PartForms.{Line, Fixed, Series, Count, MayJoin, IsName}

-- no prefix, or one that distributions may be published below
abbrev pub IsPrefix : Option (List ℕ) → Type 0
IsPrefix prefix = IfSome prefix (λ path. IsTrue (is_prefix path))

-- a place that a distribution may be published at
pub record IsPlace (place : Option (List ℕ) × List ℕ) : Type 0 where
  pub prefix : IsPrefix place.0
  pub dist : IsName place.1

-- such a place, after those of the publications before it
pub record IsNextPlace (before : List PublicationView) (place : Option (List ℕ) × List ℕ) : Type 0 where
  pub is : IsPlace place
  pub after : All (λ publication. place_cmp publication place.0 place.1 ≡ Less) before

-- the texts of a publication's Release
abbrev pub TitlesPart : Option (List ℕ) × List ℕ → (Titles → List Piece → Type 0) → List Piece → Type 0
TitlesPart place Next =
    Line origin_line (IsTitle (place_text place)) (λ origin. Line label_line (IsTitle (place_text place)) (λ label.
    Line suite_line (IsTitle place.1) (λ suite. Line codename_line (IsTitle place.1) (λ codename.
    Next (record { origin = origin; label = label; suite = suite; codename = codename })))))

-- what is published where, behind the publications before it, and the texts of its Release
abbrev pub HeadPart : List PublicationView → (Head → List Piece → Type 0) → List Piece → Type 0
HeadPart before Next =
    Line publication_line (IsNextPlace before) (λ place. Line kind_line (λ kind. IsTrue (is_published kind)) (λ kind.
    TitlesPart place (λ titles. Next (record { place = place; kind = kind; titles = titles }))))

-- the architectures of a publication: at least one
pub record ArePublished (architectures : List (List ℕ)) : Type 0 where
  pub names : AreNames is_listed architectures
  pub some : architectures ≢ []

-- how often it was published
pub record IsSerial (serial : ℕ) : Type 0 where
  pub first : 1 ≤ serial
  pub last : serial ≤ limit_number Serial

-- a component, and the name of a source
pub record IsSource (source : List ℕ × List ℕ) : Type 0 where
  pub component : IsTrue (is_component source.0)
  pub name : IsName source.1

-- a source behind those before it: its component comes after theirs, and what it names is there
pub record IsNextSource (Has : List ℕ → Type 0) (before : List (List ℕ × List ℕ)) (source : List ℕ × List ℕ) : Type 0 where
  pub is : IsSource source
  pub after : All (λ one. slice_cmp nat_cmp one.0 source.0 ≡ Less) before
  pub there : Has source.1

abbrev pub NextSource : (List ℕ → Type 0) → List (List ℕ × List ℕ) → (List ℕ × List ℕ → List Piece → Type 0) → List Piece → Type 0
NextSource Has before = Line source_line (IsNextSource Has before)

-- any number
abbrev pub IsAny : ℕ → Type 0
IsAny count = Unit {0}

-- sources, however many they are
abbrev pub SourcesPart : (List ℕ → Type 0) → (List (List ℕ × List ℕ) → List Piece → Type 0) → List Piece → Type 0
SourcesPart Has Next = Line sources_line IsAny (λ count. Series count (NextSource Has) [] Next)

-- a member of a part: a known package of these architectures that may join those before it
pub record MayJoinPart (known : List Card) (architectures : List (List ℕ)) (before : List Card) (p : Card) : Type 0 where
  pub join : MayJoin known before p
  pub fits : IsTrue (is_for architectures p)

abbrev pub NextPartMember : List Card → List (List ℕ) → List Card → (Card → List Piece → Type 0) → List Piece → Type 0
NextPartMember known architectures before = Line id_of (MayJoinPart known architectures before)

-- the list of a part
abbrev pub PartSet : List Card → List (List ℕ) → (List Card → List Piece → Type 0) → List Piece → Type 0
PartSet known architectures Next = Count set_line (limit_number Packages) (λ n. Series n (NextPartMember known architectures) [] Next)

-- a list for each of these components
abbrev pub Parts : List Card → List (List ℕ) → List (List ℕ) → (List (List ℕ × List Card) → List Piece → Type 0) → List Piece → Type 0
Parts known architectures [] Next = Next []
Parts known architectures (component ∷ components) Next =
    PartSet known architectures (λ list. Parts known architectures components (λ parts. Next ((component, list) ∷ parts)))

-- a generation of these architectures and components
abbrev pub GenerationPart : List Card → List (List ℕ) → List (List ℕ) → (ℕ → List ℕ) → (GenerationView → List Piece → Type 0) → List Piece → Type 0
GenerationPart known architectures components spelled Next =
    Count spelled (limit_number Date) (λ moment. Parts known architectures components (λ parts. Next (record { moment = pos moment; parts = parts })))

-- the generation before the current one, where there is one
abbrev pub PreviousPart : List Card → List (List ℕ) → List (List ℕ) → Bool → (Option GenerationView → List Piece → Type 0) → List Piece → Type 0
PreviousPart known architectures components false Next = Fixed (codes "previous -") (Next None)
PreviousPart known architectures components true Next = GenerationPart known architectures components previous_line (λ generation. Next (Some generation))

-- a publication of these parts
abbrev pub published : Head → List (List ℕ) → ℕ → List (List ℕ × List ℕ) → GenerationView → Option GenerationView → PublicationView
published head architectures serial sources current previous = record {
  prefix = head.place.0;
  dist = head.place.1;
  kind = head.kind;
  origin = head.titles.origin;
  label = head.titles.label;
  suite = head.titles.suite;
  codename = head.titles.codename;
  architectures = architectures;
  sources = sources;
  serial = serial;
  current = current;
  previous = previous;
}

-- the sources of a publication and its generations: there is one before the current one exactly where it was published before
abbrev pub ContentsPart : List Card → (Kind → List ℕ → Bool) → Head → List (List ℕ) → ℕ → (PublicationView → List Piece → Type 0) → List Piece → Type 0
ContentsPart known has head architectures serial Next =
    SourcesPart (λ name. IsTrue (has head.kind name)) (λ sources. GenerationPart known architectures (components_of sources) current_line (λ current.
    PreviousPart known architectures (components_of sources) (nat_lt 1 serial) (λ previous. Next (published head architectures serial sources current previous))))

-- a publication behind those before it, whose sources are there
unfoldable pub NextPublication : List Card → (Kind → List ℕ → Bool) → List PublicationView → (PublicationView → List Piece → Type 0) → List Piece → Type 0
NextPublication known has before Next =
    HeadPart before (λ head. Line architectures_line ArePublished (λ architectures. Line serial_line IsSerial (λ serial.
    ContentsPart known has head architectures serial Next)))

-- these repositories and snapshots have what a publication of this kind names as a source
abbrev pub has_source_in : List Repo → List Snapshot → Kind → List ℕ → Bool
has_source_in repos snapshots = has_source (record empty { repos = repos; snapshots = snapshots })

-- the publications of a root that knows these packages and has these repositories and snapshots
unfoldable pub PublicationsPart : List Card → List Repo → List Snapshot → (List PublicationView → List Piece → Type 0) → List Piece → Type 0
PublicationsPart known repos snapshots Next =
    Count publications_line (limit_number Publications) (λ n. Series n (NextPublication known (has_source_in repos snapshots)) [] Next)
