use Rattle.package_core.proofs.OrderLaws.{package_total}
use Rattle.package_list.proofs.SortedLemmas.{union_ascending}
use Rattle.package_list.proofs.Unions.{equal_of_union}
use Rattle.package_list.proofs.laws.unions_have_what_either_has.Goals as goal

pub returns-clause-ascending : goal.returns-clause-ascending
returns-clause-ascending c = union_ascending package_total

pub returns-clause-members : goal.returns-clause-members
returns-clause-members c = equal_of_union package_total
