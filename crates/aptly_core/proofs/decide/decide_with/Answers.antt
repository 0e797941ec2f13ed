use Rattle.std.proofs.Common.{sym, subst, ◌∙◌}
use Rattle.ap_host.proofs.ChangeLemmas.{GoesOn-map}
use Rattle.machine_step.specs.Step.{NoArchive}
use Rattle.aptly_core.proofs.DecideLemmas.{decides_of, no_archive}
use Rattle.aptly_core.proofs.decide.decide_with.Goals as goal

pub returns-in_default-clause-comes : goal.returns-in_default-clause-comes
returns-in_default-clause-comes g c = λ valid is. c.decide_read.ensures.comes (no_archive c.args.reading c.in_default.not-Mirror) valid is

pub returns-in_default-clause-changed : goal.returns-in_default-clause-changed
returns-in_default-clause-changed g c = λ valid is. c.decide_read.ensures.changed (no_archive c.args.reading c.in_default.not-Mirror) valid is

pub returns-in_default-clause-log : goal.returns-in_default-clause-log
returns-in_default-clause-log g c = GoesOn-map _ _ _ _ c.decide_read.ensures.log (λ l a w. decides_of _ _ _ _ _ _ _ _ (λ is. (no_archive c.args.reading c.in_default.not-Mirror, is)) l a w)
