use Rattle.std.proofs.Common.{◌∙◌, ap, is_some, arith}
use Rattle.regex.specs.Patterns.{find_str}
use Rattle.regex.specs.Strings.{regex_pattern}
use Rattle.query_eval.proofs.Expressions.{found_as_read}
use Rattle.query_eval.proofs.expression.Expression.is_found.Goals as goal

pub returns : goal.returns
returns c =
    let value = c.args.value.now in
    c.is_match.ensures.found ∙ ap (λ re. is_some (find_str re value 0)) c.in_ok-matcher.ensures.pattern
    ∙ ap (λ r. is_some (find_str (regex_pattern r) value 0)) c.deref.ensures
    ∙ found_as_read c.self.inside.regex.value c.args.self.now value c.self.invariant c.self.view_is (λ k. omega (arith, c.type_inv.value k))
