use Rattle.package_intake.proofs.IndexLemmas.{listed_short}
use Rattle.package_intake.proofs.index.read_entries.Goals as goal

pub returns-in-Ok-clause-short : goal.returns-in-Ok-clause-short
returns-in-Ok-clause-short c = listed_short c.args.bytes.now c.in-Ok.entries.items c.in-Ok.ensures.found
