use Rattle.mirror_ops.proofs.LawfulLemmas.{lawful, mirror_reads}
use Rattle.mirror_ops.proofs.lawful.mirror_cases_are_lawful.Goals as goal

pub returns-clause-lawful : goal.returns-clause-lawful
returns-clause-lawful c = lawful c.archives_fit.ensures.fits

pub returns-clause-reads : goal.returns-clause-reads
returns-clause-reads c = mirror_reads
