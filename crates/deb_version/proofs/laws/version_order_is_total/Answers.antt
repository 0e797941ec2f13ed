use Rattle.deb_version.proofs.OrderLaws.{version_total}
use Rattle.deb_version.proofs.laws.version_order_is_total.Goals as goal

pub returns-clause-reversed : goal.returns-clause-reversed
returns-clause-reversed c = version_total.antisymm

pub returns-clause-transitive : goal.returns-clause-transitive
returns-clause-transitive c = version_total.trans

pub returns-clause-alike : goal.returns-clause-alike
returns-clause-alike c = version_total.congr
