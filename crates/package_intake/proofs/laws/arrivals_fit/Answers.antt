use Rattle.package_intake.proofs.AddLemmas.{fitting_with}
use Rattle.package_intake.proofs.EntryLemmas.{listed_packages}
use Rattle.package_intake.proofs.LawLemmas.{added_same, arrives_fit}
use Rattle.package_intake.proofs.TotalLemmas.{some_arrives}
use Rattle.package_intake.proofs.laws.arrivals_fit.Goals as goal

pub returns-clause-joined : goal.returns-clause-joined
returns-clause-joined c = fitting_with

pub returns-clause-fits : goal.returns-clause-fits
returns-clause-fits c = λ files state name folder list v h. arrives_fit listed_packages files state name folder list v h

pub returns-clause-total : goal.returns-clause-total
returns-clause-total c = some_arrives

pub returns-clause-same : goal.returns-clause-same
returns-clause-same c = λ state name list v h. added_same state name list v h
