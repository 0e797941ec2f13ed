-- What building a regular expression promises.
use Rattle.std.specs.Prelude.{◌≡◌, ◌⊎◌, ℕ, ◌<◌, ◌+◌, ◌-◌, ◌^◌, min, Bool, ◌&&◌, ◌==◌, nat_lt, List, None, IfSome, chars}
use Rattle.std.specs.List.{list_any}
use Rattle.regex.specs.Patterns.{default_config}
use Rattle.regex.specs.Strings.{regex_source, regex_config, IsReadFromSource}
use Rattle.regex.specs.declared.string.regex.Regex.{Regex}
use Rattle.regex_syntax.specs.Grammar.{read}

-- what the grammar reads in the text is what the expression searches for
abbrev pub IsReadFrom : List ℕ → Regex → Type 0
IsReadFrom text r = (regex_source r ≡ text) × (regex_config r ≡ default_config) × IsReadFromSource r

-- the grammar reads nothing in the text, or its nesting is deeper than the limit
abbrev pub IsNoPattern : List ℕ → Type 0
IsNoPattern text = (read default_config (chars text) ≡ None)
    ⊎ IfSome (read default_config (chars text)) (λ (re, _). default_config.nest_limit < re.depth)

-- one more, as long as 64 bits hold it
abbrev pub one_more : ℕ → ℕ
one_more n = min (n + 1) (2 ^ 64 - 1)

-- The call of this ordinal is listed. None is to fail once the ordinals have come to their end.
unfoldable pub is_due : List ℕ → ℕ → Bool
is_due failing call = nat_lt call (2 ^ 64 - 1) && list_any (λ k. k == call) failing
