-- What is read of the mirrors of a root, group by group.
use Rattle.std.specs.Prelude.{◌≤◌, ℕ, Bool, List, [], ◌∷◌, ◌++◌, length, Option, IsTrue, IfSome}
use Rattle.ap_text.specs.Names.{is_component}
use Rattle.package_core.specs.Card.{Card}
use Rattle.query_tree.specs.Tree.{Tree}
use Rattle.machine_state.specs.declared.fetched.Fetched.{Fetched}
use Rattle.machine_state.specs.declared.limit.Limit.TheVariants.{Mirrors}
use Rattle.machine_state.specs.Limits.{limit_number}
use Rattle.machine_state.specs.State.{mirror_name}
use Rattle.machine_state.specs.Texts.{IsDate, IsFilter, AreNames, is_listed, is_path}
use Rattle.machine_state.specs.Values.{MirrorView}
use Rattle.catalogue_lines.specs.NameLines.{architectures_line}
use Rattle.catalogue_lines.specs.Pieces.{Piece, alone}
use Rattle.catalogue_text.specs.MirrorLines.{archive_line, place_line, components_line, filter_line, deps_line, date_line}
use Rattle.catalogue_lines.specs.SetLines.{set_pieces}
use Rattle.catalogue_lines.specs.PartForms.{Line, SetPart, IsNext, Then}
use Rattle.catalogue_lines.specs.Reading.{Each, GoodSet}

abbrev pub IsPath : ℕ → List ℕ → Type 0
IsPath most path = IsTrue (is_path most path)

abbrev pub IsChoice : Option Tree → Type 0
IsChoice filter = IfSome filter IsFilter

abbrev pub IsEither : Bool → Type 0
IsEither is = Unit {0}

-- the archive and its distribution
abbrev pub PlacePart : (List ℕ × List ℕ → List Piece → Type 0) → List Piece → Type 0
PlacePart = Then (Line archive_line (IsPath 200)) (Line place_line (IsPath 100))

abbrev pub place_pieces : List ℕ × List ℕ → List Piece
place_pieces place = alone (archive_line place.0) ∷ alone (place_line place.1) ∷ []

abbrev pub GoodPlace : List ℕ × List ℕ → Type 0
GoodPlace place = IsPath 200 place.0 × IsPath 100 place.1

-- the components and the architectures
abbrev pub ListsPart : (List (List ℕ) × List (List ℕ) → List Piece → Type 0) → List Piece → Type 0
ListsPart = Then (Line components_line (AreNames is_component)) (Line architectures_line (AreNames is_listed))

abbrev pub lists_pieces : List (List ℕ) × List (List ℕ) → List Piece
lists_pieces lists = alone (components_line lists.0) ∷ alone (architectures_line lists.1) ∷ []

abbrev pub GoodLists : List (List ℕ) × List (List ℕ) → Type 0
GoodLists lists = AreNames is_component lists.0 × AreNames is_listed lists.1

-- the filter, and whether dependencies are wanted too
abbrev pub ChoicePart : (Option Tree × Bool → List Piece → Type 0) → List Piece → Type 0
ChoicePart = Then (Line filter_line IsChoice) (Line deps_line IsEither)

abbrev pub choice_pieces : Option Tree × Bool → List Piece
choice_pieces choice = alone (filter_line choice.0) ∷ alone (deps_line choice.1) ∷ []

abbrev pub GoodChoice : Option Tree × Bool → Type 0
GoodChoice choice = IsChoice choice.0 × IsEither choice.1

-- all settings of a mirror but its name
abbrev pub SettingsPart : ((List ℕ × List ℕ) × ((List (List ℕ) × List (List ℕ)) × (Option Tree × Bool)) → List Piece → Type 0) → List Piece → Type 0
SettingsPart = Then PlacePart (Then ListsPart ChoicePart)

abbrev pub settings_pieces : (List ℕ × List ℕ) × ((List (List ℕ) × List (List ℕ)) × (Option Tree × Bool)) → List Piece
settings_pieces settings = place_pieces settings.0 ++ (lists_pieces settings.1.0 ++ choice_pieces settings.1.1)

abbrev pub GoodSettings : (List ℕ × List ℕ) × ((List (List ℕ) × List (List ℕ)) × (Option Tree × Bool)) → Type 0
GoodSettings settings = GoodPlace settings.0 × (GoodLists settings.1.0 × GoodChoice settings.1.1)

-- the date and the list of what was fetched
abbrev pub DatedPart : List Card → (List ℕ × List Card → List Piece → Type 0) → List Piece → Type 0
DatedPart known = Then (Line date_line IsDate) (SetPart known)

abbrev pub dated_pieces : List ℕ × List Card → List Piece
dated_pieces dated = alone (date_line dated.0) ∷ set_pieces dated.1

abbrev pub GoodDated : List Card → List ℕ × List Card → Type 0
GoodDated known dated = IsDate dated.0 × GoodSet known dated.1

-- what was fetched, as it has to be
abbrev pub GoodFetched : List Card → Fetched → Type 0
GoodFetched known fetched = IsDate fetched.date × GoodSet known fetched.list

abbrev pub GoodUpdated : List Card → Option Fetched → Type 0
GoodUpdated known updated = IfSome updated (GoodFetched known)

-- a mirror as it has to be behind those before it
pub record GoodMirror (known : List Card) (before : List MirrorView) (mirror : MirrorView) : Type 0 where
  pub name : IsNext mirror_name before mirror.name
  pub place : GoodPlace (mirror.archive, mirror.distribution)
  pub lists : GoodLists (mirror.components, mirror.architectures)
  pub choice : GoodChoice (mirror.filter, mirror.with_deps)
  pub updated : GoodUpdated known mirror.updated

-- the mirrors of a root that knows these packages
abbrev pub GoodMirrors : List Card → List MirrorView → Type 0
GoodMirrors known mirrors = (length mirrors ≤ limit_number Mirrors) × Each (GoodMirror known) [] mirrors
