use Rattle.std.proofs.Common.{sym, ◌∙◌}
use Rattle.shell_pattern.proofs.GlobFacts.{glob_found, glob_covered}
use Rattle.shell_pattern.proofs.glob.glob_matches.Goals as goal

pub returns-clause-cut : goal.returns-clause-cut
returns-clause-cut c = (λ h. glob_found c.args.pattern.now c.args.text.now (sym c.covers_whole.ensures ∙ h), λ h. c.covers_whole.ensures ∙ glob_covered c.args.pattern.now c.args.text.now h)
