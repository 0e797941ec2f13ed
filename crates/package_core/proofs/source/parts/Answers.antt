use Rattle.std.proofs.Common.{sym, None}
use Rattle.package_core.proofs.SourceLemmas.{parts_split}
use Rattle.package_core.proofs.source.parts.Goals as goal

pub returns-in-None : goal.returns-in-None
returns-in-None c = sym (parts_split c.args.text.now None c.in-None.ensures.cases)
