use Rattle.snapshot_ops.proofs.LawfulLemmas.{lawful, snapshot_reads}
use Rattle.snapshot_ops.proofs.lawful.snapshot_cases_are_lawful.Goals as goal

pub returns-clause-lawful : goal.returns-clause-lawful
returns-clause-lawful c = lawful

pub returns-clause-reads : goal.returns-clause-reads
returns-clause-reads c = snapshot_reads
