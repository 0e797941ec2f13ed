-- How the pieces of a relation field are read from the left (Debian Policy 7.1, 7.5).
use Rattle.std.specs.Prelude.{ℕ, Bool, true, false, ◌&&◌, ◌||◌, List, [], ◌∷◌, ◌++◌, slice_index, bytes_eq, codes, Option, Some, None, if◌then◌else◌}
use Rattle.std.specs.List.{list_all}
use Rattle.std.specs.Option.{option_and_then}
use Rattle.ap_text.specs.Names.{is_architecture, is_package_name}
use Rattle.deb_version.specs.VersionOrder.{operator}
use Rattle.deb_version.specs.VersionText.{is_version}
use Rattle.deb_version.specs.declared.order.Relation.{Relation}
use Rattle.deb_version.specs.declared.order.Relation.TheVariants.{Earlier, EarlierEqual, Equal, LaterEqual, Later}
use Rattle.depends_field.specs.declared.alternative.Alternative.{Alternative}
use Rattle.depends_field.specs.declared.phase.Kind.{Kind}
use Rattle.depends_field.specs.declared.phase.Kind.TheVariants.{Depends, Provides}
use Rattle.depends_field.specs.declared.phase.Phase.{Phase}
use Rattle.depends_field.specs.declared.phase.Phase.TheVariants.{Start, Barred, Named, Colon, Parted, Opened, Compared, Versioned, Closed}
use Rattle.depends_field.specs.Pieces.{is_blank, is_version_byte}

abbrev pub is_piece : ℕ → List ℕ → Bool
is_piece b piece = bytes_eq piece (b ∷ [])

-- a run of blanks
abbrev pub is_blanks : List ℕ → Bool
is_blanks piece = is_blank (slice_index piece 0)

-- `any`
abbrev pub is_any : List ℕ → Bool
is_any piece = bytes_eq piece (codes "any")

-- a qualifier that is read as none
abbrev pub is_no_qualifier : Kind → List ℕ → Bool
is_no_qualifier Depends piece = is_any piece
is_no_qualifier Provides piece = is_any piece

-- what an operator asks for; the old `<` and `>` mean `<=` and `>=`
unfoldable pub relation_of : List ℕ → Option Relation
relation_of piece =
    if bytes_eq piece (operator Earlier) then Some Earlier
    else if bytes_eq piece (operator EarlierEqual) || bytes_eq piece (codes "<") then Some EarlierEqual
    else if bytes_eq piece (operator Equal) then Some Equal
    else if bytes_eq piece (operator LaterEqual) || bytes_eq piece (codes ">") then Some LaterEqual
    else if bytes_eq piece (operator Later) then Some Later
    else None

-- Provides may only say `=`
abbrev pub is_allowed : Kind → Relation → Bool
is_allowed Depends relation = true
is_allowed Provides Equal = true
is_allowed Provides Earlier = false
is_allowed Provides EarlierEqual = false
is_allowed Provides LaterEqual = false
is_allowed Provides Later = false

abbrev pub plain : List ℕ → Alternative
plain name = record { name = name; arch = None; relation = None }

abbrev pub with_arch : List ℕ → List ℕ → Alternative
with_arch name arch = record { name = name; arch = Some arch; relation = None }

abbrev pub with_relation : Alternative → Relation → List ℕ → Alternative
with_relation a relation version = record { name = a.name; arch = a.arch; relation = Some (relation, version) }

-- behind blanks; none may follow a colon
abbrev pub rested : Phase → Option Phase
rested Start = Some Start
rested Barred = Some Barred
rested (Named name) = Some (Parted (plain name))
rested (Colon name) = None
rested (Parted a) = Some (Parted a)
rested (Opened a) = Some (Opened a)
rested (Compared a relation) = Some (Compared a relation)
rested (Versioned a) = Some (Versioned a)
rested (Closed a) = Some (Closed a)

unfoldable pub named : List ℕ → Option Phase
named piece = if is_package_name piece then Some (Named piece) else None

unfoldable pub qualified : Kind → List ℕ → List ℕ → Option Phase
qualified kind name piece = if is_no_qualifier kind piece then Some (Parted (plain name)) else if is_architecture piece then Some (Parted (with_arch name piece)) else None

abbrev pub compared_by : Kind → Alternative → Option Relation → Option Phase
compared_by kind a None = None
compared_by kind a (Some relation) = if is_allowed kind relation then Some (Compared a relation) else None

unfoldable pub compared : Kind → Alternative → List ℕ → Option Phase
compared kind a piece = compared_by kind a (relation_of piece)

-- a word that is a version (Debian Policy 5.6.12)
unfoldable pub is_version_word : List ℕ → Bool
is_version_word piece = list_all is_version_byte piece && is_version piece

unfoldable pub versioned : Alternative → Relation → List ℕ → Option Phase
versioned a relation piece = if is_version_word piece then Some (Versioned (with_relation a relation piece)) else None

-- behind a piece that isn't blank, no comma and no bar
abbrev pub advanced : Kind → Phase → List ℕ → Option Phase
advanced kind Start piece = named piece
advanced kind Barred piece = named piece
advanced kind (Named name) piece = if is_piece 58 piece then Some (Colon name) else if is_piece 40 piece then Some (Opened (plain name)) else None
advanced kind (Colon name) piece = qualified kind name piece
advanced kind (Parted a) piece = if is_piece 40 piece then Some (Opened a) else None
advanced kind (Opened a) piece = compared kind a piece
advanced kind (Compared a relation) piece = versioned a relation piece
advanced kind (Versioned a) piece = if is_piece 41 piece then Some (Closed a) else None
advanced kind (Closed a) piece = None

-- the alternative that may end here
abbrev pub ended : Phase → Option Alternative
ended Start = None
ended Barred = None
ended (Named name) = Some (plain name)
ended (Colon name) = None
ended (Parted a) = Some a
ended (Opened a) = None
ended (Compared a relation) = None
ended (Versioned a) = None
ended (Closed a) = Some a

-- what was read so far: the groups that ended, the alternatives before the last bar, and what stands behind it
pub record Read : Type 0 where
  pub groups : List (List Alternative)
  pub alternatives : List Alternative
  pub phase : Phase

abbrev pub start : Read
start = record { groups = []; alternatives = []; phase = Start }

abbrev pub is_start : Phase → Bool
is_start Start = true
is_start Barred = false
is_start (Named name) = false
is_start (Colon name) = false
is_start (Parted a) = false
is_start (Opened a) = false
is_start (Compared a relation) = false
is_start (Versioned a) = false
is_start (Closed a) = false

abbrev pub grouped : Read → Option Alternative → Option Read
grouped s None = None
grouped s (Some a) = Some (record { groups = s.groups ++ (s.alternatives ++ a ∷ []) ∷ []; alternatives = []; phase = Start })

-- behind a comma, which also ends a group of blanks alone; the text's end does the same
unfoldable pub parted : Read → Option Read
parted s = if is_start s.phase then Some s else grouped s (ended s.phase)

abbrev pub alternated : Read → Option Alternative → Option Read
alternated s None = None
alternated s (Some a) = Some (record { groups = s.groups; alternatives = s.alternatives ++ a ∷ []; phase = Barred })

-- behind a bar, which Provides has not
abbrev pub barred : Kind → Read → Option Read
barred Depends s = alternated s (ended s.phase)
barred Provides s = None

abbrev pub with_phase : Read → Phase → Read
with_phase s phase = record { groups = s.groups; alternatives = s.alternatives; phase = phase }

abbrev pub phased : Read → Option Phase → Option Read
phased s None = None
phased s (Some phase) = Some (with_phase s phase)

-- behind one more piece, if it may stand there
unfoldable pub stepped : Kind → Read → List ℕ → Option Read
stepped kind s piece =
    if is_piece 44 piece then parted s
    else if is_piece 124 piece then barred kind s
    else if is_blanks piece then phased s (rested s.phase)
    else phased s (advanced kind s.phase piece)

-- behind all the pieces
abbrev pub run : Kind → Read → List (List ℕ) → Option Read
run kind s [] = Some s
run kind s (p ∷ ps) = option_and_then (λ t. run kind t ps) (stepped kind s p)

abbrev pub groups_read : Option Read → Option (List (List Alternative))
groups_read None = None
groups_read (Some s) = Some s.groups

-- the groups, where the text may end
unfoldable pub finished : Read → Option (List (List Alternative))
finished s = groups_read (parted s)
