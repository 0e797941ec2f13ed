-- What is left of the text of some fields, part by part.
use Rattle.std.specs.Prelude.{ℕ, ◌+◌, ◌-◌, ◌*◌, List, [], ◌∷◌, ◌++◌}
use Rattle.control_stanza.specs.declared.stanza.Field.{Field}
use Rattle.control_stanza.specs.Written.{gap, stanza_text}
use Rattle.package_core.specs.declared.bytes.Part.{Part}
use Rattle.package_core.specs.declared.bytes.Part.TheVariants.{Name, Gap, Value, End}
use Rattle.package_core.specs.declared.bytes.Left.{Left}

-- what follows a part; the name and the gap are those of the first field, the value and the line end those of the field before it
abbrev pub behind : Part → List Field → List ℕ
behind Name [] = []
behind Name (f ∷ fs) = 58 ∷ (gap f.value ++ f.value) ++ 10 ∷ [] ++ stanza_text fs
behind Gap [] = []
behind Gap (f ∷ fs) = f.value ++ 10 ∷ [] ++ stanza_text fs
behind Value fs = 10 ∷ stanza_text fs
behind End fs = stanza_text fs

unfoldable pub left : Left → List ℕ
left l = l.here.now ++ behind l.part l.fields.now

-- how many parts are still to begin
abbrev pub parts_behind : Part → ℕ → ℕ
parts_behind Name fields = 4 * fields - 1
parts_behind Gap fields = 4 * fields - 2
parts_behind Value fields = 4 * fields + 1
parts_behind End fields = 4 * fields
