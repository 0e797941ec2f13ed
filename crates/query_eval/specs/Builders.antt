-- What a builder of regular expressions makes of a text, and how its count of refusals goes on.
use Rattle.std.specs.Prelude.{◌≡◌, ◌⊎◌, List, ℕ, Some, option_map, string_bytes, Result, Err, IfOk}
use Rattle.regex.specs.declared.string.regex.Regex.{Regex}
use Rattle.query_eval.specs.declared.patterns.PatternErr.{PatternErr}
use Rattle.query_eval.specs.declared.patterns.PatternErr.TheVariants.{Syntax, Size, OutOfMemory}
use Rattle.query_eval.specs.declared.patterns.RegexPatterns.{RegexPatterns}
use Rattle.query_eval.specs.Build.{IsReadFrom, IsNoPattern, one_more}
use Rattle.query_eval.specs.Conditions.{IsPattern}

-- one more text was refused for its size, this one
pub record IsCounted (text : List ℕ) (old new : RegexPatterns) : Type 0 where
  pub refusals : new.refusals ≡ one_more old.refusals
  pub refused : option_map string_bytes new.refused ≡ Some text

-- The answer of `regex`: what the grammar reads is built; a text that is no pattern is told as that; one that is a pattern
-- may be refused for its size, which is counted. Nothing else changes the builder.
pub record IsBuilt (text : List ℕ) (old new : RegexPatterns) (result : Result Regex PatternErr) : Type 0 where
  pub read : IfOk result (IsReadFrom text)
  pub syntax : result ≡ Err Syntax → IsNoPattern text
  pub size : result ≡ Err Size → IsPattern text × IsCounted text old new
  pub kept : (result ≡ Err Size) ⊎ (new ≡ old)

-- The answer of a call that is to fail: a refusal for the size, which is counted, or want of memory.
abbrev pub IsDueAnswer : List ℕ → RegexPatterns → RegexPatterns → Result Regex PatternErr → Type 0
IsDueAnswer text old new result = ((result ≡ Err Size) × IsCounted text old new) ⊎ ((result ≡ Err OutOfMemory) × (new ≡ old))
