use Rattle.mirror_update.proofs.LawLemmas.{arrives_fit, refuses_archive}
use Rattle.mirror_update.proofs.TotalLemmas.{some_update}
use Rattle.mirror_update.proofs.laws.archives_fit.Goals as goal

pub returns-clause-fits : goal.returns-clause-fits
returns-clause-fits c = λ files state mirror fetched v is h. arrives_fit files state mirror.name mirror fetched v h

pub returns-clause-refuses : goal.returns-clause-refuses
returns-clause-refuses c = refuses_archive

pub returns-clause-total : goal.returns-clause-total
returns-clause-total c = some_update
