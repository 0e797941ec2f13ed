-- Lines of a control text (Debian Policy 5.1).
use Rattle.std.specs.Prelude.{ℕ, ◌+◌, Bool, false, not, ◌&&◌, ◌||◌, ◌==◌, nat_le, nat_lt, List, [], ◌∷◌, if◌then◌else◌, Result, Ok, Err, length}
use Rattle.std.specs.List.{list_any, list_all}
use Rattle.std.specs.Str.{is_utf8}
use Rattle.control_stanza.specs.declared.fault.StanzaKind.{StanzaKind}
use Rattle.control_stanza.specs.declared.fault.StanzaKind.TheVariants.{CarriageReturn, NotUtf8, NoColon, BadFieldName}

-- one byte more in front of the first line
abbrev pub begun : ℕ → List (List ℕ) → List (List ℕ)
begun c [] = (c ∷ []) ∷ []
begun c (l ∷ ls) = (c ∷ l) ∷ ls

-- the lines of a text, each with its line end; a last line needs none
abbrev pub lines_of : List ℕ → List (List ℕ)
lines_of [] = []
lines_of (c ∷ cs) = if c == 10 then (10 ∷ []) ∷ lines_of cs else begun c (lines_of cs)

-- a line without its line end
abbrev pub bare : List ℕ → List ℕ
bare [] = []
bare (c ∷ cs) = if c == 10 then [] else c ∷ bare cs

-- how many bytes lines have, line ends among them
abbrev pub bytes_in : List (List ℕ) → ℕ
bytes_in [] = 0
bytes_in (line ∷ lines) = length line + bytes_in lines

-- blanks are space and tab
unfoldable pub is_blank : ℕ → Bool
is_blank c = (c == 32) || (c == 9)

abbrev pub starts_blank : List ℕ → Bool
starts_blank [] = false
starts_blank (c ∷ cs) = is_blank c

abbrev pub ends_blank : List ℕ → Bool
ends_blank [] = false
ends_blank (c ∷ []) = is_blank c
ends_blank (c ∷ d ∷ ds) = ends_blank (d ∷ ds)

abbrev pub has_return : List ℕ → Bool
has_return line = list_any (λ c. c == 13) line

abbrev pub has_line_end : List ℕ → Bool
has_line_end line = list_any (λ c. c == 10) line

-- without blanks in front
abbrev pub trim_start : List ℕ → List ℕ
trim_start [] = []
trim_start (c ∷ cs) = if is_blank c then trim_start cs else c ∷ cs

abbrev pub kept : ℕ → List ℕ → List ℕ
kept c [] = if is_blank c then [] else c ∷ []
kept c (d ∷ ds) = c ∷ d ∷ ds

-- without blanks at the end
abbrev pub trim_end : List ℕ → List ℕ
trim_end [] = []
trim_end (c ∷ cs) = kept c (trim_end cs)

-- what stands before the first colon, and from it on
abbrev pub before_colon : List ℕ → List ℕ
before_colon [] = []
before_colon (c ∷ cs) = if c == 58 then [] else c ∷ before_colon cs

abbrev pub from_colon : List ℕ → List ℕ
from_colon [] = []
from_colon (c ∷ cs) = if c == 58 then c ∷ cs else from_colon cs

-- a byte of a field name: printable ASCII but the colon
unfoldable pub is_name_byte : ℕ → Bool
is_name_byte c = nat_le 33 c && nat_lt c 127 && not (c == 58)

-- a name begins with neither '#' nor '-'
unfoldable pub is_first_byte : ℕ → Bool
is_first_byte c = not ((c == 35) || (c == 45))

unfoldable pub is_field_name : List ℕ → Bool
is_field_name [] = false
is_field_name (c ∷ cs) = is_first_byte c && list_all is_name_byte (c ∷ cs)

-- what a line is, by itself: a separator, a further line of a value, or a field's name and the first line of its value
pub data LineView : Type 0 where
  Blank : LineView
  More : List ℕ → LineView
  Start : List ℕ → List ℕ → LineView

abbrev pub field_of : List ℕ → List ℕ → Result LineView StanzaKind
field_of name [] = Err NoColon
field_of name (c ∷ rest) = if is_field_name name then Ok (Start name (trim_end (trim_start rest))) else Err BadFieldName

unfoldable pub shape_of : List ℕ → Result LineView StanzaKind
shape_of line =
    if list_all is_blank line then Ok Blank
    else if starts_blank line then Ok (More (trim_end line))
    else field_of (before_colon line) (from_colon line)

unfoldable pub line_of : List ℕ → Result LineView StanzaKind
line_of line =
    if has_return line then Err CarriageReturn
    else if not (is_utf8 line) then Err NotUtf8
    else shape_of line
