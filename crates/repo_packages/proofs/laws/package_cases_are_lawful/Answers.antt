use Rattle.repo_packages.proofs.PackageLaws.{add_law, copy_law, import_law, move_law, remove_law}
use Rattle.repo_packages.proofs.laws.package_cases_are_lawful.Goals as goal

pub returns-clause-addition : goal.returns-clause-addition
returns-clause-addition c = add_law c.arrivals_fit.ensures.fits

pub returns-clause-removal : goal.returns-clause-removal
returns-clause-removal c = remove_law

pub returns-clause-copy : goal.returns-clause-copy
returns-clause-copy c = copy_law

pub returns-clause-transfer : goal.returns-clause-transfer
returns-clause-transfer c = move_law

pub returns-clause-imports : goal.returns-clause-imports
returns-clause-imports c = import_law
