-- The text of a stanza (Debian Policy 5.1).
use Rattle.std.specs.Prelude.{ℕ, List, [], ◌∷◌, ◌++◌, ◌==◌, if◌then◌else◌}
use Rattle.control_stanza.specs.declared.stanza.Field.{Field}

-- behind the colon a space, if the value's first line isn't empty
abbrev pub gap : List ℕ → List ℕ
gap [] = []
gap (c ∷ cs) = if c == 10 then [] else 32 ∷ []

unfoldable pub field_text : Field → List ℕ
field_text field = field.name ++ 58 ∷ (gap field.value ++ field.value) ++ 10 ∷ []

-- the fields' texts, one after another
abbrev pub stanza_text : List Field → List ℕ
stanza_text [] = []
stanza_text (field ∷ fields) = field_text field ++ stanza_text fields
