-- Reading an index of binary packages (the Packages index of the Debian repository format; Debian Policy 5.1, 5.3, 7.1, 7.5).
use Rattle.std.specs.Prelude.{◌≡◌, ◌⊎◌, ℕ, List, ◌∷◌, ◌++◌, map, codes, Bool, true, false, Option, Some, None, Result, Ok, Err}
use Rattle.std.specs.List.{AllByRecursion}
use Rattle.control_stanza.specs.declared.read.TheConstants.{MOST_STANZA_BYTES}
use Rattle.control_stanza.specs.declared.fault.StanzaKind.{StanzaKind}
use Rattle.control_stanza.specs.declared.fault.StanzaFault.{StanzaFault}
use Rattle.control_stanza.specs.declared.fault.StanzaFault.TheVariants as lines
use Rattle.control_stanza.specs.declared.stanza.Field.{Field}
use Rattle.control_stanza.specs.Lines.{lines_of}
use Rattle.control_stanza.specs.Fields.{value_of}
use Rattle.control_stanza.specs.Spelled.{Stanzas}
use Rattle.control_stanza.specs.Faults.{IsFirstFault}
use Rattle.depends_field.specs.declared.alternative.Alternative.{Alternative}
use Rattle.depends_field.specs.declared.phase.Kind.{Kind}
use Rattle.depends_field.specs.declared.phase.Kind.TheVariants.{Depends, Provides}
use Rattle.depends_field.specs.Groups.{Groups}
use Rattle.depends_field.specs.declared.fault.DependsFault.{DependsFault}
use Rattle.depends_field.specs.declared.fault.DependsFault.TheVariants as depends
use Rattle.package_core.specs.Faults.{fault_of}
use Rattle.package_core.specs.Card.{Card, IsPackage, card_of, path_in}
use Rattle.package_core.specs.Whole.{IsSaid}
use Rattle.index_text.specs.declared.fault.IndexFault.{IndexFault}
use Rattle.index_text.specs.declared.fault.IndexFault.TheVariants.{At, OutOfMemory}

-- a relation field isn't there, or its text says some groups
abbrev pub IsReadable : Kind → Option (List ℕ) → Type 0
IsReadable kind None = Unit {0}
IsReadable kind (Some text) = (groups : List (List Alternative)) × Groups kind text groups

-- whether a field was read
abbrev pub IsKnown : {X : Type 0} → Result X DependsFault → Bool → Type 0
IsKnown (Ok x) b = b ≡ true
IsKnown (Err (depends.At place)) b = b ≡ false
IsKnown (Err depends.OutOfMemory) b = ⊥

-- each relation field that is there can be read
pub record HasRelations (fields : List Field) : Type 0 where
  pub pre_depends : IsReadable Depends (value_of fields (codes "Pre-Depends"))
  pub depends : IsReadable Depends (value_of fields (codes "Depends"))
  pub recommends : IsReadable Depends (value_of fields (codes "Recommends"))
  pub suggests : IsReadable Depends (value_of fields (codes "Suggests"))
  pub provides : IsReadable Provides (value_of fields (codes "Provides"))

-- a stanza of an index: a binary stanza whose relation fields can be read
pub record IsEntry (fields : List Field) : Type 0 where
  pub binary : fault_of fields ≡ None
  pub relations : HasRelations fields

-- the package that a stanza describes, and the path of its file
abbrev pub entry_of : ℕ × List Field → Card × List ℕ
entry_of s = (card_of s.1, path_in s.1)

abbrev pub AreEntries : List (ℕ × List Field) → Type 0
AreEntries stanzas = AllByRecursion (λ s. IsEntry s.1) stanzas

-- the text is made of these stanzas, each with the number of its first line
abbrev pub IsMadeOf : List ℕ → List (ℕ × List Field) → Type 0
IsMadeOf text stanzas = Stanzas (Some MOST_STANZA_BYTES) 1 (lines_of text) stanzas

-- The text is made of stanzas of an index, which describe these packages and paths in their order.
pub record Lists (text : List ℕ) (entries : List (Card × List ℕ)) : Type 0 where
  pub stanzas : List (ℕ × List Field)
  pub made_of : IsMadeOf text stanzas
  pub are_entries : AreEntries stanzas
  pub described : entries ≡ map entry_of stanzas

-- the first of the stanzas that can't stand in an index begins at this line
pub record IsFirstOther (stanzas : List (ℕ × List Field)) (line : ℕ) : Type 0 where
  pub before : List (ℕ × List Field)
  pub other : ℕ × List Field
  pub behind : List (ℕ × List Field)
  pub stanzas_are : stanzas ≡ before ++ other ∷ behind
  pub are_entries : AreEntries before
  pub is_none : IsEntry other.1 → ⊥
  pub line_is : line ≡ other.0

-- The line is the first that can't stand where it stands in any text of stanzas; or the text is made of stanzas, and the
-- first of them that can't stand in an index begins there.
abbrev pub IsAt : List ℕ → ℕ → Type 0
IsAt text line =
    ((kind : StanzaKind) × IsFirstFault (Some MOST_STANZA_BYTES) (lines_of text) (record { line = line; kind = kind }))
    ⊎ ((stanzas : List (ℕ × List Field)) × IsMadeOf text stanzas × IsFirstOther stanzas line)

-- a fault in the lines of a text, as a fault of the index
abbrev pub of_lines : StanzaFault → IndexFault
of_lines (lines.At line kind) = At line
of_lines lines.OutOfMemory = OutOfMemory

-- what an error says of the text; want of memory says nothing
abbrev pub IsFaultOf : List ℕ → IndexFault → Type 0
IsFaultOf text (At line) = IsAt text line
IsFaultOf text OutOfMemory = Unit {0}

-- the call tells this line, unless memory runs out
abbrev pub IsAtOf : {X : Type 0} → ℕ → Result X IndexFault → Type 0
IsAtOf line (Ok x) = ⊥
IsAtOf line (Err (At told)) = told ≡ line
IsAtOf line (Err OutOfMemory) = Unit {0}

-- the same of stanzas
abbrev pub IsOtherOf : List (ℕ × List Field) → IndexFault → Type 0
IsOtherOf stanzas (At line) = IsFirstOther stanzas line
IsOtherOf stanzas OutOfMemory = Unit {0}

-- packages that agree with their own stanzas, whose sizes and digests are such
abbrev pub ArePackages : List (Card × List ℕ) → Type 0
ArePackages entries = AllByRecursion (λ e. IsPackage e.0 × IsSaid e.0.said) entries
