use Rattle.package_core.proofs.OrderLaws.{equal_packages, packages_equal, one_package}
use Rattle.package_core.proofs.laws.equal_packages_are_twins.Goals as goal

pub returns-clause-twins : goal.returns-clause-twins
returns-clause-twins c = equal_packages

pub returns-clause-equal : goal.returns-clause-equal
returns-clause-equal c = packages_equal

pub returns-clause-one : goal.returns-clause-one
returns-clause-one c = one_package
