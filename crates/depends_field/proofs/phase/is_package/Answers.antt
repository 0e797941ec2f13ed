use Rattle.std.proofs.Common.{sym}
use Rattle.depends_field.proofs.Words.{no_package_name}
use Rattle.depends_field.proofs.phase.is_package.Goals as goal

pub returns-in-Err : goal.returns-in-Err
returns-in-Err c = sym (no_package_name c.args.piece.now c.in-Err.ensures.cases.0)
