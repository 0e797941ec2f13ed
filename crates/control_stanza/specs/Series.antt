-- Texts of several stanzas, with an empty line behind each (Debian Policy 5.1).
use Rattle.std.specs.Prelude.{◌≡◌, ◌≢◌, ℕ, ◌+◌, true, List, [], ◌∷◌, ◌++◌, length, Option, Ok}
use Rattle.std.specs.List.{flat_map, AllByRecursion}
use Rattle.control_stanza.specs.declared.stanza.Field.{Field}
use Rattle.control_stanza.specs.Lines.{lines_of}
use Rattle.control_stanza.specs.Fields.{is_stanza}
use Rattle.control_stanza.specs.Reading.{stanzas_of}
use Rattle.control_stanza.specs.Spelled.{Stanzas, within}
use Rattle.control_stanza.specs.Written.{stanza_text}

-- the stanzas' texts, an empty line behind each
abbrev pub series_text : List (List Field) → List ℕ
series_text stanzas = flat_map (λ s. stanza_text s ++ 10 ∷ []) stanzas

-- how many lines a stanza's text has, and the empty line behind it
abbrev pub lines_with_end : List Field → ℕ
lines_with_end fields = length (lines_of (stanza_text fields)) + 1

-- each stanza with the number of its first line, where the first line of all has the number n
abbrev pub numbered_from : ℕ → List (List Field) → List (ℕ × List Field)
numbered_from n [] = []
numbered_from n (s ∷ stanzas) = (n, s) ∷ numbered_from (n + lines_with_end s) stanzas

-- the number of the line behind them
abbrev pub number_behind : ℕ → List (List Field) → ℕ
number_behind n [] = n
number_behind n (s ∷ stanzas) = number_behind (n + lines_with_end s) stanzas

-- the fields of a stanza that has one at least, and whose text has no more bytes
pub record IsWritten (bound : Option ℕ) (fields : List Field) : Type 0 where
  pub stanza : is_stanza fields ≡ true
  pub some : fields ≢ []
  pub small : within bound (length (stanza_text fields)) ≡ true

-- Such a text is made of exactly these stanzas, each with the number of its first line, and is read as they are.
pub record SeriesAreRead : Type 0 where
  pub whole : (bound : Option ℕ) (stanzas : List (List Field)) → AllByRecursion (IsWritten bound) stanzas → Stanzas bound 1 (lines_of (series_text stanzas)) (numbered_from 1 stanzas)
  pub read : (bound : Option ℕ) (stanzas : List (List Field)) → AllByRecursion (IsWritten bound) stanzas → stanzas_of bound (series_text stanzas) ≡ Ok (numbered_from 1 stanzas)
  -- with one more stanza that has no empty line behind it
  pub unended : (bound : Option ℕ) (stanzas : List (List Field)) (last : List Field) → AllByRecursion (IsWritten bound) stanzas → IsWritten bound last → Stanzas bound 1 (lines_of (series_text stanzas ++ stanza_text last)) (numbered_from 1 (stanzas ++ last ∷ []))
  -- with any text behind them
  pub followed : (bound : Option ℕ) (n : ℕ) (stanzas : List (List Field)) (text : List ℕ) (behind : List (ℕ × List Field)) → AllByRecursion (IsWritten bound) stanzas → Stanzas bound (number_behind n stanzas) (lines_of text) behind → Stanzas bound n (lines_of (series_text stanzas ++ text)) (numbered_from n stanzas ++ behind)
