-- Flags: the words after the verb that begin with a dash, and what they say.
use Rattle.std.specs.Prelude.{◌≡◌, ℕ, ◌+◌, ◌<◌, ◌≤◌, take, ◌==◌, nat_lt, nat_le, Bool, true, false, ◌&&◌, ◌||◌, not, if◌then◌else◌, List, [], ◌∷◌, ◌++◌, Option, Some, None, option_map, length, drop, slice_index, codes}
use Rattle.std.specs.List.{find, list_any, list_all, position_or_len, before_first, after_first, slice_split}
use Rattle.std.specs.Set.{distinct_count}
use Rattle.std.specs.Str.{bytes_eq}
use Rattle.command_table.specs.declared.table.Form.{Form}
use Rattle.command_table.specs.declared.table.Form.TheVariants.{Switch, Text, Texts}
use Rattle.command_value.specs.Plain.{Word, Words}
use Rattle.command_table.specs.Table.{FlagRule}

-- a dash and more; the mark `--` is none
abbrev pub is_flag : Word → Bool
is_flag word = nat_le 2 (length word) && (slice_index word 0 == 45) && not (bytes_eq word (codes "--"))

-- a flag is written with one dash or two
abbrev pub strip_dash : Word → Word
strip_dash word = if slice_index word 0 == 45 then drop 1 word else word

abbrev pub undashed : Word → Word
undashed word = strip_dash (strip_dash word)

abbrev pub is_equals : ℕ → Bool
is_equals c = c == 61

abbrev pub is_comma : ℕ → Bool
is_comma c = c == 44

-- what stands before the first `=`
abbrev pub flag_name : Word → Word
flag_name word = before_first is_equals (undashed word)

-- what stands after it, if one is there
abbrev pub value_in : Word → Option Word
value_in text =
    if nat_lt (position_or_len is_equals text) (length text) then Some (after_first is_equals text) else None

abbrev pub flag_value : Word → Option Word
flag_value word = value_in (undashed word)

-- the texts of a list, which commas part
abbrev pub parts : Word → Words
parts value = slice_split is_comma value

-- one or more texts, none of them empty and none twice
abbrev pub is_text_list : Words → Bool
is_text_list texts = list_all (λ t. not (length t == 0)) texts && (distinct_count bytes_eq texts == length texts)

-- whether a flag of this form may have this value
abbrev pub has_form : Form → Option Word → Bool
has_form Switch None = true
has_form Switch (Some value) = bytes_eq value (codes "true") || bytes_eq value (codes "false")
has_form Text None = false
has_form Text (Some value) = true
has_form Texts None = false
has_form Texts (Some value) = is_text_list (parts value)

abbrev pub form_of : List FlagRule → Word → Option Form
form_of flags name = option_map (λ f. f.form) (find (λ f. bytes_eq f.name name) flags)

abbrev pub has_known_form : Option Form → Option Word → Bool
has_known_form None value = false
has_known_form (Some form) value = has_form form value

abbrev pub has_name : Word → Word → Bool
has_name name word = bytes_eq (flag_name word) name

-- a switch is true where it stands alone or says `true`
abbrev pub switch_value : Option Word → Bool
switch_value None = true
switch_value (Some value) = bytes_eq value (codes "true")

-- the flag sets the switch of this name true
abbrev pub sets : Word → Word → Bool
sets name word = has_name name word && switch_value (flag_value word)

-- the later one of `-latest` and `-no-remove` both set true
abbrev pub excludes : Words → Word → Bool
excludes before word =
    (sets (codes "latest") word && list_any (sets (codes "no-remove")) before) ||
    (sets (codes "no-remove") word && list_any (sets (codes "latest")) before)

-- whether a flag can stand after these: the command has it, in this form, it isn't repeated, and it
-- doesn't exclude one of them
unfoldable pub flag_stands : List FlagRule → Words → Word → Bool
flag_stands rules before word =
    has_known_form (form_of rules (flag_name word)) (flag_value word) &&
    not (list_any (has_name (flag_name word)) before) && not (excludes before word)

-- each flag can stand after those before it
abbrev pub flags_stand_after : List FlagRule → Words → Words → Bool
flags_stand_after rules before [] = true
flags_stand_after rules before (word ∷ words) =
    flag_stands rules before word && flags_stand_after rules (before ++ word ∷ []) words

abbrev pub flags_stand : List FlagRule → Words → Bool
flags_stand rules words = flags_stand_after rules [] words

-- how the flag of a name was written: not at all, alone, or with a value
abbrev pub written : Word → Words → Option (Option Word)
written name flags = option_map flag_value (find (has_name name) flags)

abbrev pub joined : Option (Option Word) → Option Word
joined None = None
joined (Some value) = value

-- what the flags say: of a switch, of a text, of a list of texts
abbrev pub switch_of : Word → Words → Option Bool
switch_of name flags = option_map switch_value (written name flags)

abbrev pub text_of : Word → Words → Option Word
text_of name flags = joined (written name flags)

abbrev pub texts_of : Word → Words → Option Words
texts_of name flags = option_map parts (text_of name flags)

-- the longest front of the flags in which each can stand after those before it
abbrev pub IsLongestStanding : List FlagRule → Words → ℕ → Type 0
IsLongestStanding rules flags n =
    (n ≤ length flags) × (flags_stand rules (take n flags) ≡ true) ×
    (n < length flags → flags_stand rules (take (n + 1) flags) ≡ false)
