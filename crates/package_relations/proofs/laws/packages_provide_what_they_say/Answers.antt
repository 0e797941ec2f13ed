use Rattle.package_relations.proofs.SaidLemmas.{provided_by_text, provided_by_none, provided_by_unreadable}
use Rattle.package_relations.proofs.laws.packages_provide_what_they_say.Goals as goal

pub returns-clause-said : goal.returns-clause-said
returns-clause-said c = provided_by_text

pub returns-clause-absent : goal.returns-clause-absent
returns-clause-absent c = provided_by_none

pub returns-clause-unreadable : goal.returns-clause-unreadable
returns-clause-unreadable c = provided_by_unreadable
