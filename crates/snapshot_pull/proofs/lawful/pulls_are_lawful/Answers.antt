use Rattle.snapshot_pull.proofs.LawfulLemmas.{pull_lawful, pull_reads}
use Rattle.snapshot_pull.proofs.lawful.pulls_are_lawful.Goals as goal

pub returns-clause-lawful : goal.returns-clause-lawful
returns-clause-lawful c = pull_lawful

pub returns-clause-reads : goal.returns-clause-reads
returns-clause-reads c = pull_reads
