use Rattle.std.proofs.Common.{refl}
use Rattle.ap_host.proofs.ChangeLemmas.{GoesOn-map, GoesOn-none}
use Rattle.catalogue_root.proofs.SaveLemmas.{saves_none, saves_some}
use Rattle.catalogue_root.proofs.committing.save.Goals as goal

pub returns-in-None-clause-log : goal.returns-in-None-clause-log
returns-in-None-clause-log g c = GoesOn-none _ _ _ refl (λ l. saves_none c.args.old.now c.args.new.now c.in-None.is c.args.stage.now _ l)

pub returns-in-Some-clause-log : goal.returns-in-Some-clause-log
returns-in-Some-clause-log g c = GoesOn-map _ _ _ _ c.commit.ensures.log (λ l a w. saves_some c.args.old.now c.args.new.now _ c.in-Some.is c.args.stage.now c.commit.new.stage _ l a w)
