use Rattle.std.proofs.Common.{lit<}
use Rattle.std.proofs.lemmas.Str.Pattern.{strip_suffix_char}
use Rattle.command_words.proofs.Commas.{comma_stripped}
use Rattle.command_words.proofs.piece.strip_comma.Goals as goal

pub returns : goal.returns
returns c = comma_stripped c.args.word.now c.strip_suffix.result (strip_suffix_char 44 c.args.word.now c.strip_suffix.result c.strip_suffix.ensures.cases (lit< tt))
