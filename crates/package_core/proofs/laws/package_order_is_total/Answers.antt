use Rattle.package_core.proofs.OrderLaws.{package_total}
use Rattle.package_core.proofs.laws.package_order_is_total.Goals as goal

pub returns-clause-reversed : goal.returns-clause-reversed
returns-clause-reversed c = package_total.antisymm

pub returns-clause-transitive : goal.returns-clause-transitive
returns-clause-transitive c = package_total.trans

pub returns-clause-alike : goal.returns-clause-alike
returns-clause-alike c = package_total.congr
