-- What `RegexPatterns` makes of an answer of `regex`.
use Rattle.std.proofs.Common.{◌≡◌, ◌⊎◌, ℕ, List, Err, inl, inr, refl, ⊎_elim}
use Rattle.std.specs.Str.{chars}
use Rattle.regex.specs.Patterns.{default_config, Reads}
use Rattle.regex.specs.Failures as failures
use Rattle.regex_syntax.specs.Grammar.{read}
use Rattle.query_eval.specs.declared.patterns.PatternErr.{PatternErr}
use Rattle.query_eval.specs.declared.patterns.PatternErr.TheVariants.{Syntax, Size, OutOfMemory}
use Rattle.query_eval.specs.declared.patterns.RegexPatterns.{RegexPatterns}
use Rattle.query_eval.specs.Build.{IsNoPattern}
use Rattle.query_eval.specs.Builders.{IsBuilt, IsCounted}
use Rattle.query_eval.specs.Conditions.{IsPattern}
use Rattle.query_eval.proofs.Expressions.{shallow}

-- what `regex` says of a text that is too large
pub is_pattern : (text : List ℕ) → failures.IsPattern default_config text → IsPattern text
unfolding Reads
is_pattern text (hir, names, reads) = shallow (read default_config (chars text)) _ names reads

pub built_none : (text : List ℕ) (builder : RegexPatterns) → IsNoPattern text → IsBuilt text builder builder (Err Syntax)
built_none text builder none = record { read = tt; syntax = λ e. none; size = λ e. absurd (cc); kept = inr refl }

pub built_large : (text : List ℕ) (old new : RegexPatterns) (e : PatternErr) → IsPattern text → (e ≡ Size) ⊎ (e ≡ OutOfMemory) → (e ≡ Size → IsCounted text old new) → (e ≡ Size) ⊎ (new ≡ old) → IsBuilt text old new (Err e)
built_large text old new Syntax pattern either counted kept = ⊎_elim (λ h. absurd (cc)) (λ h. absurd (cc)) either
built_large text old new Size pattern either counted kept = record { read = tt; syntax = λ h. absurd (cc); size = λ h. (pattern, counted refl); kept = inl refl }
built_large text old new OutOfMemory pattern either counted kept = record {
  read = tt;
  syntax = λ h. absurd (cc);
  size = λ h. absurd (cc);
  kept = ⊎_elim (λ h. absurd (cc)) inr kept;
}
