use Rattle.std.proofs.Common.{subst, None}
use Rattle.query_tree.specs.Tree.{plain}
use Rattle.query_eval.specs.Conditions.{IsRefused, patterns_of}
use Rattle.query_eval.specs.declared.fault.EvalFault.{EvalFault}
use Rattle.step_model.proofs.PatternLemmas.{no_pattern, numbered_patterns, too_large}
use Rattle.step_model.proofs.queries.built.Goals as goal

pub returns-in-Ok-clause-read : goal.returns-in-Ok-clause-read
returns-in-Ok-clause-read g c = numbered_patterns c.args.number 0 (patterns_of (plain c.args.query.now)) c.in-Ok.ensures.read

pub returns-in-Err-BadPattern-clause-fault : goal.returns-in-Err-BadPattern-clause-fault
returns-in-Err-BadPattern-clause-fault g c =
    let texts = patterns_of (plain c.args.query.now) in
    let old = g.M.Patterns.refusals c.args.patterns.now in
    let new = g.M.Patterns.refusals c.new.new.patterns in
    let refused = g.M.Patterns.refused c.new.new.patterns in (
      None,
      tt,
      no_pattern None c.args.number c.in-Err-BadPattern.test texts old new refused
          (subst (λ (e : EvalFault). IsRefused 0 texts old new refused e) c.in-Err-BadPattern.field-0-is c.in-Err-BadPattern.ensures.fault),
    )

pub returns-in-Err-PatternTooLarge-clause-fault : goal.returns-in-Err-PatternTooLarge-clause-fault
returns-in-Err-PatternTooLarge-clause-fault g c =
    let texts = patterns_of (plain c.args.query.now) in
    let old = g.M.Patterns.refusals c.args.patterns.now in
    let new = g.M.Patterns.refusals c.new.new.patterns in
    let refused = g.M.Patterns.refused c.new.new.patterns in
    too_large c.args.number c.in-Err-PatternTooLarge.test texts old new refused
    (subst (λ (e : EvalFault). IsRefused 0 texts old new refused e) c.in-Err-PatternTooLarge.field-0-is c.in-Err-PatternTooLarge.ensures.fault)
