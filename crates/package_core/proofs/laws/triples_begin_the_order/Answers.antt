use Rattle.std.proofs.Common.{refl}
use Rattle.package_core.specs.Order.{package_cmp}
use Rattle.package_core.proofs.OrderLaws.{same_triple-is, triple_total}
use Rattle.package_core.proofs.laws.triples_begin_the_order.Goals as goal

pub returns-clause-same : goal.returns-clause-same
returns-clause-same c = same_triple-is

pub returns-clause-total : goal.returns-clause-total
returns-clause-total c = triple_total

pub returns-clause-begins : goal.returns-clause-begins
unfolding package_cmp
returns-clause-begins c = λ a b. refl
