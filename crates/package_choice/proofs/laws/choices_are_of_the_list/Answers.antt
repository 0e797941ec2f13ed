use Rattle.package_core.specs.Order.{package_cmp}
use Rattle.package_core.proofs.OrderLaws.{package_total}
use Rattle.package_list.specs.Sorted.{IsAscending}
use Rattle.package_list.proofs.Unions.{filter_ascending}
use Rattle.package_choice.proofs.ChoiceLemmas.{kept_for, of_the_list}
use Rattle.package_choice.proofs.laws.choices_are_of_the_list.Goals as goal

pub returns-clause-members : goal.returns-clause-members
returns-clause-members c = of_the_list

pub returns-clause-ascending : goal.returns-clause-ascending
returns-clause-ascending c = λ deps follow list queries up. kept_for (IsAscending package_cmp) deps follow list queries (λ test. filter_ascending package_total test list up)
