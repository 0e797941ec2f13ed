-- Shell patterns as the code reads them, step by step.
use Rattle.std.specs.Prelude.{ℕ, ◌<◌, Bool, true, false, not, ◌&&◌, ◌||◌, ◌==◌, List, [], ◌∷◌, length, Option, Some, None, is_some, if◌then◌else◌}
use Rattle.std.specs.Str.{chars}
use Rattle.shell_pattern.specs.declared.letter.Letter.{Letter}
use Rattle.shell_pattern.specs.declared.letter.Reading.{Reading}
use Rattle.shell_pattern.specs.declared.letter.Reading.TheVariants as reading
use Rattle.shell_pattern.specs.declared.class.Held.{Held}
use Rattle.shell_pattern.specs.declared.class.Held.TheVariants as held
use Rattle.shell_pattern.specs.Glob.{plain, escaped, class_end, class_letters, is_in, Element, run, any_one, exactly, class, takes, elements_of}

-- what stands where a character of a class is looked for
pub data At : Type 0 where
  letter : Letter → List ℕ → At
  end : List ℕ → At
  missing : At

abbrev pub escaped_at : List ℕ → At
escaped_at [] = missing
escaped_at (d ∷ ds) = letter (escaped d) ds

abbrev pub letter_at : Bool → List ℕ → At
letter_at first [] = missing
letter_at first (c ∷ cs) = if c == 92 then escaped_at cs else if c == 93 && not first then end cs else letter (plain c) cs

abbrev pub reading_view : Reading → At
reading_view (reading.Letter l rest) = letter l (chars rest.now)
reading_view (reading.End rest) = end (chars rest.now)
reading_view reading.Missing = missing

abbrev pub IsShorter : Reading → List ℕ → Type 0
IsShorter (reading.Letter l rest) text = length rest.now < length text
IsShorter (reading.End rest) text = length rest.now < length text
IsShorter reading.Missing text = Unit {0}

-- a class goes on as a step of the code says
abbrev pub end_from : At → Option (List ℕ)
end_from (letter l cs) = class_end false cs
end_from (end cs) = Some cs
end_from missing = None

abbrev pub letters_from : At → List Letter
letters_from (letter l cs) = l ∷ class_letters false cs
letters_from (end cs) = []
letters_from missing = []

-- a `]` in the characters ends a class that goes on with them
abbrev pub has_class_end : List ℕ → Bool
has_class_end cs = is_some (class_end false cs)

-- letters that were read and not yet judged stand before those to come
abbrev pub held_letters : Held → List Letter → List Letter
held_letters held.Nothing ls = ls
held_letters (held.One a) ls = a ∷ ls
held_letters (held.Dash a) ls = a ∷ plain 45 ∷ ls

-- a character was found among the letters, or may still be
abbrev pub is_in_after : Option Held → List Letter → ℕ → Bool
is_in_after None ls c = true
is_in_after (Some h) ls c = is_in (held_letters h ls) c

-- a test holds of some tail
abbrev pub any_tail : (List ℕ → Bool) → List ℕ → Bool
any_tail holds [] = holds []
any_tail holds (c ∷ cs) = holds (c ∷ cs) || any_tail holds cs

-- The pattern's elements stand for the characters, tried from the left.
abbrev pub covers : List Element → List ℕ → Bool
covers [] [] = true
covers [] (c ∷ cs) = false
covers (run ∷ es) cs = any_tail (covers es) cs
covers (any_one ∷ es) [] = false
covers (any_one ∷ es) (c ∷ cs) = covers es cs
covers (exactly d ∷ es) [] = false
covers (exactly d ∷ es) (c ∷ cs) = takes (exactly d) c && covers es cs
covers (class negated letters ∷ es) [] = false
covers (class negated letters ∷ es) (c ∷ cs) = takes (class negated letters) c && covers es cs

-- how far elements and characters go together: to the end of both, to a run, behind which both go on, or no further
pub data Front : Type 0 where
  whole : Front
  star : List Element → List ℕ → Front
  fails : Front

abbrev pub go_if : Bool → Front → Front
go_if true f = f
go_if false f = fails

abbrev pub front : List Element → List ℕ → Front
front [] [] = whole
front [] (c ∷ cs) = fails
front (run ∷ es) cs = star es cs
front (any_one ∷ es) [] = fails
front (any_one ∷ es) (c ∷ cs) = front es cs
front (exactly d ∷ es) [] = fails
front (exactly d ∷ es) (c ∷ cs) = go_if (takes (exactly d) c) (front es cs)
front (class negated letters ∷ es) [] = fails
front (class negated letters ∷ es) (c ∷ cs) = go_if (takes (class negated letters) c) (front es cs)

-- a shell pattern stands for the whole text
unfoldable pub is_globbed : List ℕ → List ℕ → Bool
is_globbed pattern text = covers (elements_of (chars pattern)) (chars text)
