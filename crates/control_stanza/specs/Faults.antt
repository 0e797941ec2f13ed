-- The first line that can't stand where it stands, and why (Debian Policy 5.1).
use Rattle.std.specs.Prelude.{◌≡◌, ℕ, ◌+◌, Bool, true, false, not, ◌&&◌, ◌==◌, List, [], ◌∷◌, ◌++◌, length, map, Option, Some}
use Rattle.std.specs.List.{list_any, list_all, find}
use Rattle.std.specs.Str.{is_utf8}
use Rattle.control_stanza.specs.declared.fault.StanzaKind.{StanzaKind}
use Rattle.control_stanza.specs.declared.fault.StanzaKind.TheVariants.{CarriageReturn, NotUtf8, StrayContinuation, NoColon, BadFieldName, RepeatedField, TooLong}
use Rattle.control_stanza.specs.declared.stanza.Field.{Field}
use Rattle.control_stanza.specs.Lines.{bare, bytes_in, is_blank, starts_blank, has_return, before_colon, is_field_name}
use Rattle.control_stanza.specs.Fields.{has_name}
use Rattle.control_stanza.specs.Spelled.{IsSeparator, Spells, Stanzas, within}
use Rattle.control_stanza.specs.Reading.{Fault}

abbrev pub has_colon : List ℕ → Bool
has_colon line = list_any (λ c. c == 58) line

-- it should begin a field
abbrev pub begins_field : List ℕ → Bool
begins_field line = not (list_all is_blank line) && not (starts_blank line)

-- the fields above are none
abbrev pub is_nil : List Field → Bool
is_nil [] = true
is_nil (f ∷ fs) = false

-- a line, behind the fields of its stanza and their bytes, shows a kind of fault
abbrev pub shows : Option ℕ → List Field → ℕ → List ℕ → StanzaKind → Bool
shows bound above size line CarriageReturn = has_return (bare line)
shows bound above size line NotUtf8 = not (is_utf8 (bare line))
shows bound above size line StrayContinuation = starts_blank (bare line) && not (list_all is_blank (bare line)) && is_nil above
shows bound above size line NoColon = begins_field (bare line) && not (has_colon (bare line))
shows bound above size line BadFieldName = begins_field (bare line) && not (is_field_name (before_colon (bare line)))
shows bound above size line RepeatedField = begins_field (bare line) && has_name above (before_colon (bare line))
shows bound above size line TooLong = not (list_all is_blank (bare line)) && not (within bound (size + length line))

-- the kinds in their order
abbrev pub kinds : List StanzaKind
kinds = CarriageReturn ∷ NotUtf8 ∷ StrayContinuation ∷ NoColon ∷ BadFieldName ∷ RepeatedField ∷ TooLong ∷ []

-- nothing, or a separator last
abbrev pub IsClosed : List (List ℕ) → Type 0
IsClosed [] = Unit {0}
IsClosed (line ∷ []) = IsSeparator (bare line)
IsClosed (line ∷ next ∷ lines) = IsClosed (next ∷ lines)

-- The lines before the fault's line are stanzas, and no stanzas have lines that begin with these and that line. Of the
-- kinds that the line shows, behind the lines of its own stanza, the fault's is the first.
pub record IsFirstFault (bound : Option ℕ) (lines : List (List ℕ)) (fault : Fault) : Type 0 where
  pub before : List (List ℕ)
  pub line : List ℕ
  pub behind : List (List ℕ)
  pub lines_are : lines ≡ before ++ line ∷ behind
  pub number : fault.line ≡ 1 + length before
  pub found : List (ℕ × List Field)
  pub readable : Stanzas bound 1 before found
  pub unreadable : (more : List (List ℕ)) (out : List (ℕ × List Field)) → Stanzas bound 1 (before ++ line ∷ more) out → ⊥
  pub parting : List (List ℕ)
  pub body : List (List ℕ)
  pub before_is : before ≡ parting ++ body
  pub closed : IsClosed parting
  pub above : List Field
  pub spells : Spells (map bare body) above
  pub kind : find (shows bound above (bytes_in body) line) kinds ≡ Some fault.kind
