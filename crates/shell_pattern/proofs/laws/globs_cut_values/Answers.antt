use Rattle.shell_pattern.specs.GlobReading.{is_globbed}
use Rattle.shell_pattern.proofs.GlobFacts.{glob_found, glob_covered}
use Rattle.shell_pattern.proofs.laws.globs_cut_values.Goals as goal

pub returns : goal.returns
unfolding is_globbed
returns c = λ pattern value. (glob_found pattern value, glob_covered pattern value)
