use Rattle.std.proofs.Common.{sym}
use Rattle.std.proofs.lemmas.Bool.{cond-false}
use Rattle.depends_field.proofs.Words.{no_name}
use Rattle.depends_field.proofs.phase.name_of.Goals as goal

pub returns-in_default : goal.returns-in_default
returns-in_default c = sym (cond-false _ _ _ (no_name c.args.piece.now c.in_default.ensures.cases.0))
