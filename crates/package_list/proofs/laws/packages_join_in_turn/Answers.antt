use Rattle.std.proofs.Common.{[]}
use Rattle.package_core.specs.Order.{package_cmp}
use Rattle.package_core.proofs.OrderLaws.{package_total}
use Rattle.package_list.proofs.SortedLemmas.{union_ascending}
use Rattle.package_list.proofs.Unions.{equal_of_union}
use Rattle.package_list.proofs.Gathers.{union_push, refused_in_turn}
use Rattle.package_list.proofs.laws.packages_join_in_turn.Goals as goal

pub returns-clause-next : goal.returns-clause-next
returns-clause-next c = union_push package_cmp []

pub returns-clause-refusals : goal.returns-clause-refusals
returns-clause-refusals c = refused_in_turn

pub returns-clause-members : goal.returns-clause-members
returns-clause-members c ps q = equal_of_union package_total [] ps q tt

pub returns-clause-ascending : goal.returns-clause-ascending
returns-clause-ascending c ps = union_ascending package_total [] ps tt
