use Rattle.std.proofs.Common.{sym}
use Rattle.depends_field.proofs.Words.{no_architecture}
use Rattle.depends_field.proofs.phase.is_architecture.Goals as goal

pub returns-in-Err : goal.returns-in-Err
returns-in-Err c = sym (no_architecture c.args.piece.now c.in-Err.ensures.cases.0)
