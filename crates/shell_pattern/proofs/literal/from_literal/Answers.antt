use Rattle.std.proofs.Common.{◌∙◌, ap}
use Rattle.std.specs.Str.{chars}
use Rattle.shell_pattern.specs.GlobReading.{any_tail}
use Rattle.shell_pattern.proofs.SearchFacts.{none_there, first_there}
use Rattle.shell_pattern.proofs.literal.from_literal.Goals as goal

pub returns-in-None-clause-value : goal.returns-in-None-clause-value
returns-in-None-clause-value c = none_there c.args.letters.now c.args.text.now c.utf8.letters c.utf8.text c.in-None.ensures.cases

pub returns-in-Some-clause-value : goal.returns-in-Some-clause-value
returns-in-Some-clause-value c = λ holds b.
    ap (λ t. any_tail holds (chars t)) c.range_from.ensures.value
    ∙ first_there c.args.letters.now c.args.text.now c.in-Some.at c.utf8.letters c.utf8.text c.in-Some.ensures.cases.3 c.in-Some.ensures.cases.1.0 holds b
