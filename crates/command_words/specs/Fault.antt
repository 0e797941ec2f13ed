-- Where words are at fault.
use Rattle.std.specs.Prelude.{◌≡◌, ℕ, ◌+◌}
use Rattle.command_words.specs.declared.fault.WordFault.{WordFault}
use Rattle.command_words.specs.declared.fault.WordFault.TheVariants.{At, OutOfMemory}
use Rattle.command_table.specs.Arguments.{IsFirstFault}
use Rattle.command_value.specs.Plain.{Words}
use Rattle.command_words.specs.Spelled.{row_begins, row_ends, begins, is_command}
use Rattle.command_table.specs.Table.{RowRule}

-- a fault is at such a place; want of memory may come at any time
abbrev pub IsAt : (ℕ → Type 0) → WordFault → Type 0
IsAt P (At place) = P place
IsAt P OutOfMemory = Unit {0}

-- a place in the words after a group and a verb
abbrev pub IsRowFault : RowRule → Words → ℕ → Type 0
IsRowFault row words place = (p : ℕ) × (place ≡ p + 2) × IsFirstFault (row_begins row) (row_ends row) words p

abbrev pub IsCommandFault : Words → ℕ → Type 0
IsCommandFault words place = IsFirstFault begins is_command words place
