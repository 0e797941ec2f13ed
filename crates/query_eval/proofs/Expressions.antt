-- An expression finds what the grammar reads in its text.
use Rattle.std.proofs.Common.{◌≡◌, ℕ, ◌<◌, ◌≤◌, true, List, get_or, length, Option, Some, None, IsSomeAnd, is_some}
use Rattle.std.specs.Str.{chars}
use Rattle.regex.specs.Patterns.{Re, find_str, default_config, SameCaptures, Reads}
use Rattle.regex.specs.Strings.{regex_pattern, regex_source, regex_config, regex_names, IsReadFromSource}
use Rattle.regex.specs.declared.string.regex.Regex.{Regex}
use Rattle.regex.proofs.ForCallers.{is_match_alike}
use Rattle.regex_syntax.specs.Brackets.{Nested}
use Rattle.regex_syntax.specs.Grammar.{Names, group_count, read}
use Rattle.query_eval.specs.Build.{IsReadFrom}
use Rattle.query_eval.specs.Conditions.{IsPattern}
use Rattle.query_eval.specs.Truth.{finds, is_found}

abbrev pub Read : Re → Names → Nested Re → Names → Type 0
Read re names x found = (x.depth ≤ default_config.nest_limit) × SameCaptures re x.value × (names ≡ found) × (group_count re ≤ length names)

finds_by : (o : Option (Nested Re × Names)) (re : Re) (names : Names) (value : List ℕ) → ((k : ℕ) → get_or value k 0 < 256) → IsSomeAnd o (λ (x, found). Read re names x found) → is_some (find_str re value 0) ≡ finds o value
finds_by None re names value bytes h = absurd h
finds_by (Some (x, found)) re names value bytes h = is_match_alike h.1 value bytes true 0

pub shallow : (o : Option (Nested Re × Names)) (re : Re) (names : Names) → IsSomeAnd o (λ (x, found). Read re names x found) → IsSomeAnd o (λ (x, found). x.depth ≤ default_config.nest_limit)
shallow None re names h = absurd h
shallow (Some (x, found)) re names h = h.0

reads_default : (r : Regex) (text : List ℕ) → regex_source r ≡ text → regex_config r ≡ default_config → IsReadFromSource r → IsSomeAnd (read default_config (chars text)) (λ (x, found). Read (regex_pattern r) (regex_names r) x found)
unfolding Reads
reads_default r text e f h = rw (e, f) at h

pub found_as_read : (r : Regex) (text value : List ℕ) → IsReadFrom (regex_source r) r → regex_source r ≡ text → ((k : ℕ) → get_or value k 0 < 256) → is_some (find_str (regex_pattern r) value 0) ≡ is_found text value
unfolding is_found
found_as_read r text value h e bytes =
    finds_by (read default_config (chars text)) (regex_pattern r) (regex_names r) value bytes (reads_default r text e h.1 h.2)

pub pattern_as_read : (r : Regex) (text : List ℕ) → IsReadFrom text r → IsPattern text
pattern_as_read r text h =
    shallow (read default_config (chars text)) (regex_pattern r) (regex_names r) (reads_default r text h.0 h.1 h.2)
