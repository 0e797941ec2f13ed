use Rattle.ap_host.specs.declared.host.Op.TheVariants.{Remove}
use Rattle.ap_host.proofs.ChangeLemmas.{does, GoesOn-map}
use Rattle.stage_file.proofs.StageLemmas.{removes}
use Rattle.stage_file.proofs.staging.Stage.remove.Goals as goal

pub returns-clause-log : goal.returns-clause-log
returns-clause-log g c =
    let path = c.args.path.now in
    GoesOn-map _ _ _ _ (does (Remove path) c.remove.result _ _ c.remove.ensures.log) (λ l a d. removes path c.remove.result l a d)
