use Rattle.std.proofs.Common.{lit<}
use Rattle.std.proofs.lemmas.Str.Pattern.{strip_prefix_char}
use Rattle.std.specs.Prelude.{None}
use Rattle.command_table.proofs.Dashes.{strip_dash_none}
use Rattle.command_table.proofs.flags.strip_dash.Goals as goal

pub returns-in-None : goal.returns-in-None
returns-in-None c = strip_dash_none c.args.word.now (strip_prefix_char 45 c.args.word.now None c.in-None.ensures.cases (lit< tt))
