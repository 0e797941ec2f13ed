-- The names of fields, in lower case.
use Rattle.std.specs.Prelude.{◌≡◌, ℕ, List, map}
use Rattle.std.specs.Char.{to_ascii_lowercase}
use Rattle.std.specs.BTreeSet.{BTreeSet, contains_text}
use Rattle.std.specs.declared.string.String.{String}
use Rattle.control_stanza.specs.declared.stanza.Field.{Field}
use Rattle.control_stanza.specs.Fields.{has_name}

-- a name is in the set exactly if one of the fields has it
abbrev pub Lists : {Y : Type 0} → BTreeSet (String Y) → List Field → Type 0
Lists names fields = (name : List ℕ) → contains_text names (map to_ascii_lowercase name) ≡ has_name fields name
