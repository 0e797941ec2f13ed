use Rattle.local_repo.proofs.LawfulLemmas as laws
use Rattle.local_repo.proofs.lawful.repo_cases_are_lawful.Goals as goal

pub returns-clause-lawful : goal.returns-clause-lawful
returns-clause-lawful c = let law = c.package_cases_are_lawful.ensures in laws.lawful law.addition law.removal law.copy law.transfer law.imports

pub returns-clause-reads : goal.returns-clause-reads
returns-clause-reads c = let law = c.package_cases_are_lawful.ensures in laws.repo_reads law.addition law.removal law.copy law.transfer law.imports
