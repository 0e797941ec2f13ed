use Rattle.std.proofs.Common.{arith}
use Rattle.std.proofs.lemmas.Str.Pattern.{strip_suffix_char}
use Rattle.package_core.proofs.SourceLemmas.{closing_stripped}
use Rattle.package_core.proofs.source.before_closing.Goals as goal

pub returns : goal.returns
returns c = closing_stripped c.args.text.now _ (strip_suffix_char 41 c.args.text.now _ c.strip_suffix.ensures.cases (omega arith))
