-- A list of commands while it is cut: the parts that have ended, and the one that is open.
use Rattle.std.specs.Prelude.{ℕ, List, [], ◌∷◌, ◌++◌, map, if◌then◌else◌, codes}
use Rattle.std.specs.Str.{bytes_eq}
use Rattle.command_words.specs.declared.piece.Cutter.{Cutter}
use Rattle.command_words.specs.Commands.{Part, part, ends_with_comma, without_last}
use Rattle.command_value.specs.Plain.{Word}

pub record Cutting : Type 0 where
  pub done : List Part
  pub open_part : Part

abbrev pub cutting : Cutter → Cutting
cutting c = record { done = map part c.pieces.items; open_part = part c.last }

abbrev pub with_word : Part → Word → Part
with_word p word = record { start = p.start; words = p.words ++ word ∷ [] }

abbrev pub ended : Cutting → Part → ℕ → Cutting
ended c p next = record { done = c.done ++ p ∷ []; open_part = record { start = next; words = [] } }

-- one word more, after which the index is next
abbrev pub one_word_more : Cutting → Word → ℕ → Cutting
one_word_more c word next =
    if bytes_eq word (codes ",") then ended c c.open_part next
    else if ends_with_comma word then ended c (with_word c.open_part (without_last word)) next
    else record { done = c.done; open_part = with_word c.open_part word }
