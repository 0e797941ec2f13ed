use Rattle.package_relations.proofs.OrderLemmas.{by_version_total, equal_packages_by_version, equal_by_version}
use Rattle.package_relations.proofs.laws.version_first_order_is_total.Goals as goal

pub returns-clause-reversed : goal.returns-clause-reversed
returns-clause-reversed c = by_version_total.antisymm

pub returns-clause-transitive : goal.returns-clause-transitive
returns-clause-transitive c = by_version_total.trans

pub returns-clause-alike : goal.returns-clause-alike
returns-clause-alike c = by_version_total.congr

pub returns-clause-equal : goal.returns-clause-equal
returns-clause-equal c = λ a b. (equal_packages_by_version a b, equal_by_version a b)
