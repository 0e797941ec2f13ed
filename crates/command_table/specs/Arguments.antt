-- The arguments of a command.
use Rattle.std.specs.Prelude.{◌≡◌, ℕ, ◌+◌, ◌<◌, ◌≤◌, nat_le, Bool, true, false, ◌&&◌, ◌||◌, not, List, [], ◌∷◌, Option, MatchOption, length, take, codes}
use Rattle.std.specs.Str.{bytes_eq}
use Rattle.command_table.specs.declared.table.Arguments.{Arguments}
use Rattle.command_table.specs.declared.table.Arguments.TheVariants.{Between, AtLeast, Apart, Origin, Sources, Switched}
use Rattle.command_value.specs.Plain.{Words}

-- the destination is the source
abbrev pub is_onto_itself : Words → Bool
is_onto_itself [] = false
is_onto_itself (source ∷ []) = false
is_onto_itself (source ∷ destination ∷ words) = bytes_eq source destination

abbrev pub is_source_kind : List ℕ → Bool
is_source_kind word = bytes_eq word (codes "mirror") || bytes_eq word (codes "repo")

-- a name, and `empty`, or `from` and a kind of source and a name
abbrev pub begins_origin : Words → Bool
begins_origin [] = true
begins_origin (name ∷ []) = true
begins_origin (name ∷ word ∷ []) = bytes_eq word (codes "from") || bytes_eq word (codes "empty")
begins_origin (name ∷ word ∷ kind ∷ []) = bytes_eq word (codes "from") && is_source_kind kind
begins_origin (name ∷ word ∷ kind ∷ source ∷ []) = bytes_eq word (codes "from") && is_source_kind kind
begins_origin (name ∷ word ∷ kind ∷ source ∷ more ∷ words) = false

abbrev pub ends_origin : Words → Bool
ends_origin (name ∷ word ∷ []) = bytes_eq word (codes "empty")
ends_origin (name ∷ word ∷ kind ∷ source ∷ []) = true
ends_origin _ = false

-- whether these arguments, with n components, can be the first of a command
abbrev pub arguments_begin : Arguments → ℕ → Words → Bool
arguments_begin (Between low high) n words = nat_le (length words) high
arguments_begin (AtLeast low) n words = true
arguments_begin Apart n words = not (is_onto_itself words)
arguments_begin Origin n words = begins_origin words
arguments_begin Sources n words = nat_le (length words) (n + 1)
arguments_begin Switched n words = nat_le (length words) (n + 2)

-- whether none is missing
abbrev pub arguments_end : Arguments → ℕ → Words → Bool
arguments_end (Between low high) n words = nat_le low (length words)
arguments_end (AtLeast low) n words = nat_le low (length words)
arguments_end Apart n words = nat_le 3 (length words)
arguments_end Origin n words = ends_origin words
arguments_end Sources n words = nat_le n (length words)
arguments_end Switched n words = nat_le (n + 1) (length words)

-- the place of the first word with which the words before it don't begin, else that after the last
-- word, where one is missing
abbrev pub IsFirstFault : (Words → Bool) → (Words → Bool) → Words → ℕ → Type 0
IsFirstFault begins ends words place =
    (place ≤ length words) × (begins (take place words) ≡ true) ×
    (place < length words → begins (take (place + 1) words) ≡ false) ×
    (place ≡ length words → ends words ≡ false)

-- nothing is wrong, or the first fault is at the place
abbrev pub Judges : (Words → Bool) → (Words → Bool) → Words → Option ℕ → Type 0
Judges begins ends words r =
    MatchOption r ((begins words ≡ true) × (ends words ≡ true)) (IsFirstFault begins ends words)
