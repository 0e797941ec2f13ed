use Rattle.package_relations.proofs.SaidLemmas.{groups_by_text, groups_by_none, groups_by_unreadable}
use Rattle.package_relations.proofs.laws.packages_ask_for_what_they_say.Goals as goal

pub returns-clause-said : goal.returns-clause-said
returns-clause-said c = groups_by_text

pub returns-clause-absent : goal.returns-clause-absent
returns-clause-absent c = groups_by_none

pub returns-clause-unreadable : goal.returns-clause-unreadable
returns-clause-unreadable c = groups_by_unreadable
