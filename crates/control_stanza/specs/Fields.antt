-- A stanza as the list of its fields (Debian Policy 5.1).
use Rattle.std.specs.Prelude.{ℕ, Bool, true, false, not, ◌&&◌, ◌==◌, List, [], ◌∷◌, if◌then◌else◌, Option, map, filter}
use Rattle.std.specs.List.{list_any, list_all, find}
use Rattle.std.specs.Option.{option_map}
use Rattle.std.specs.Char.{to_ascii_lowercase}
use Rattle.std.specs.Str.{bytes_eq, is_utf8}
use Rattle.control_stanza.specs.declared.stanza.Field.{Field}
use Rattle.control_stanza.specs.Lines.{begun, starts_blank, ends_blank, has_return, is_field_name}

-- one name, without ASCII case
unfoldable pub same_name : List ℕ → List ℕ → Bool
same_name a b = bytes_eq (map to_ascii_lowercase a) (map to_ascii_lowercase b)

-- one of the fields has the name
abbrev pub has_name : List Field → List ℕ → Bool
has_name fields name = list_any (λ f. same_name f.name name) fields

-- no name twice
abbrev pub are_distinct : List Field → Bool
are_distinct [] = true
are_distinct (field ∷ fields) = not (list_any (λ g. same_name field.name g.name) fields) && are_distinct fields

-- the lines of a value, parted by line ends
abbrev pub value_lines : List ℕ → List (List ℕ)
value_lines [] = [] ∷ []
value_lines (c ∷ cs) = if c == 10 then [] ∷ value_lines cs else begun c (value_lines cs)

-- no blank at either end
abbrev pub is_first_line : List ℕ → Bool
is_first_line line = not (starts_blank line) && not (ends_blank line)

-- it begins with a blank, and another character ends it
abbrev pub is_further_line : List ℕ → Bool
is_further_line line = starts_blank line && not (ends_blank line)

abbrev pub are_value_lines : List (List ℕ) → Bool
are_value_lines [] = false
are_value_lines (line ∷ lines) = is_first_line line && list_all is_further_line lines

abbrev pub is_value : List ℕ → Bool
is_value value = are_value_lines (value_lines value) && not (has_return value) && is_utf8 value

abbrev pub is_field : Field → Bool
is_field field = is_field_name field.name && is_value field.value

-- the fields of a stanza
unfoldable pub is_stanza : List Field → Bool
is_stanza fields = list_all is_field fields && are_distinct fields

-- the value of the field of that name
unfoldable pub value_of : List Field → List ℕ → Option (List ℕ)
value_of fields name = option_map (λ f. f.value) (find (λ f. same_name f.name name) fields)

-- the other fields, in order
unfoldable pub without_name : List Field → List ℕ → List Field
without_name fields name = filter (λ f. not (same_name f.name name)) fields
