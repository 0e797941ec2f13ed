use Rattle.std.proofs.Common.{⊎_elim, inl, inr, refl}
use Rattle.regex.specs.Patterns.{Refuses, default_config}
use Rattle.regex.specs.Failures.{IsRightKind}
use Rattle.regex.specs.declared.error.Error.TheVariants.{Syntax}
use Rattle.query_eval.proofs.Builds.{is_pattern, built_none, built_large}
use Rattle.query_eval.proofs.patterns.RegexPatternsPatterns.build.Goals as goal

no_pattern : goal.returns-in-Err-Syntax-clause-syntax
unfolding Refuses
no_pattern c =
    let kind : IsRightKind default_config c.args.text.now (Syntax c.in-Err-Syntax.field-0-0) = rw c.in-Err-Syntax.field-0-is at c.in-Err-Syntax.ensures.kind in
    λ _. ⊎_elim (λ m. absurd (kind m)) (⊎_elim inl (λ d. inr d.1))
    (c.in-Err-Syntax.ensures.by_grammar c.in-Err-Syntax.field-0-0 c.in-Err-Syntax.field-0-is)

pub returns-in-Err-Syntax-clause-syntax : goal.returns-in-Err-Syntax-clause-syntax
returns-in-Err-Syntax-clause-syntax c = no_pattern c

pub returns-in-Err-Syntax-clause-built : goal.returns-in-Err-Syntax-clause-built
returns-in-Err-Syntax-clause-built c = built_none c.args.text.now c.args.self.now (no_pattern c refl)

pub returns-in-Err-CompiledTooBig-clause-built : goal.returns-in-Err-CompiledTooBig-clause-built
returns-in-Err-CompiledTooBig-clause-built c =
    let pattern = is_pattern c.args.text.now (rw c.in-Err-CompiledTooBig.field-0-is at c.in-Err-CompiledTooBig.ensures.kind) in
    built_large c.args.text.now c.args.self.now c.refuse.new.self c.refuse.result pattern c.refuse.ensures.syntax c.refuse.ensures.counted c.refuse.ensures.unchanged
