-- Stanzas and the lines that spell them (Debian Policy 5.1). The relation goes from a stanza to its lines.
use Rattle.std.specs.Prelude.{◌≡◌, ℕ, ◌+◌, ◌<◌, nat_le, Bool, true, false, List, [], ◌∷◌, ◌++◌, length, map, Option, None, Some}
use Rattle.std.specs.List.{list_any, list_all}
use Rattle.std.specs.Str.{is_utf8}
use Rattle.control_stanza.specs.declared.stanza.Field.{Field}
use Rattle.control_stanza.specs.Lines.{bare, bytes_in, is_blank, is_field_name, starts_blank, ends_blank, has_return}
use Rattle.control_stanza.specs.Fields.{same_name}

abbrev pub AllBlank : List ℕ → Type 0
AllBlank text = list_all is_blank text ≡ true

-- a line's bytes, whatever it is for: no CR, and UTF-8
pub record IsPlain (line : List ℕ) : Type 0 where
  pub no_return : has_return line ≡ false
  pub utf8 : is_utf8 line ≡ true

-- a separator
pub record IsSeparator (line : List ℕ) : Type 0 where
  pub blank : AllBlank line
  pub plain : IsPlain line

-- the line begins a field: its name, a colon, blanks, the first line of its value, blanks
pub record Begins (line name value : List ℕ) : Type 0 where
  pub before : List ℕ
  pub after : List ℕ
  pub is : line ≡ name ++ 58 ∷ (before ++ (value ++ after))
  pub blank_before : AllBlank before
  pub blank_after : AllBlank after
  pub starts : starts_blank value ≡ false
  pub ends : ends_blank value ≡ false
  pub name_is : is_field_name name ≡ true
  pub plain : IsPlain line

-- the line goes on with a value: a further line of it, blanks
pub record GoesOn (line more : List ℕ) : Type 0 where
  pub after : List ℕ
  pub is : line ≡ more ++ after
  pub blank_after : AllBlank after
  pub starts : starts_blank more ≡ true
  pub ends : ends_blank more ≡ false
  pub plain : IsPlain line

-- the further lines of a value, each behind a line end
abbrev pub SpellsMore : List (List ℕ) → List ℕ → Type 0
SpellsMore [] value = value ≡ []
SpellsMore (line ∷ lines) value = (more rest : List ℕ) × (value ≡ 10 ∷ (more ++ rest)) × GoesOn line more × SpellsMore lines rest

pub record SpellsField (lines : List (List ℕ)) (field : Field) : Type 0 where
  pub line : List ℕ
  pub others : List (List ℕ)
  pub first : List ℕ
  pub rest : List ℕ
  pub lines_are : lines ≡ line ∷ others
  pub value_is : field.value ≡ first ++ rest
  pub begins : Begins line field.name first
  pub goes_on : SpellsMore others rest

-- the lines, without their ends, are field by field those of the stanza
abbrev pub Spells : List (List ℕ) → List Field → Type 0
Spells lines [] = lines ≡ []
Spells lines (field ∷ fields) = (a b : List (List ℕ)) × (lines ≡ a ++ b) × SpellsField a field × Spells b fields

-- no name twice, without case
abbrev pub IsDistinct : List Field → Type 0
IsDistinct [] = Unit {0}
IsDistinct (field ∷ fields) = (list_any (λ g. same_name field.name g.name) fields ≡ false) × IsDistinct fields

abbrev pub AllSeparators : List (List ℕ) → Type 0
AllSeparators [] = Unit {0}
AllSeparators (line ∷ lines) = IsSeparator (bare line) × AllSeparators lines

-- nothing, or a separator first
abbrev pub IsParted : List (List ℕ) → Type 0
IsParted [] = Unit {0}
IsParted (line ∷ lines) = IsSeparator (bare line)

-- so many bytes are allowed; with no bound any number is
abbrev pub within : Option ℕ → ℕ → Bool
within None n = true
within (Some most) n = nat_le n most

-- separators, the lines of a stanza from the one with its number on, and what is to follow
pub record StanzaThen (bound : Option ℕ) (n : ℕ) (lines : List (List ℕ)) (s : ℕ × List Field) (Behind : ℕ → List (List ℕ) → Type 0) : Type 0 where
  pub parting : List (List ℕ)
  pub body : List (List ℕ)
  pub tail : List (List ℕ)
  pub lines_are : lines ≡ parting ++ (body ++ tail)
  pub separators : AllSeparators parting
  pub number : s.0 ≡ n + length parting
  pub spells : Spells (map bare body) s.1
  pub distinct : IsDistinct s.1
  pub some : 0 < length body
  pub small : within bound (bytes_in body) ≡ true
  pub parted : IsParted tail
  pub behind : Behind (s.0 + length body) tail

-- Separators and, for each stanza, one or more lines that spell it, with a separator between any two. The first line
-- of all has the number n, and a stanza's lines with their line ends have at most so many bytes.
abbrev pub Stanzas : Option ℕ → ℕ → List (List ℕ) → List (ℕ × List Field) → Type 0
Stanzas bound n lines [] = AllSeparators lines
Stanzas bound n lines (s ∷ stanzas) = StanzaThen bound n lines s (λ k tail. Stanzas bound k tail stanzas)
