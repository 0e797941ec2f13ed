use Rattle.std.proofs.Common.{IsSome, List, ℕ, subst}
use Rattle.ap_host.specs.declared.host.Op.TheVariants.{Rename}
use Rattle.ap_host.specs.Disk.{live_of}
use Rattle.ap_host.specs.Calls.{Does}
use Rattle.ap_host.proofs.ChangeLemmas.{does, GoesOn-map, GoesOn-given}
use Rattle.stage_file.proofs.StageLemmas.{places}
use Rattle.stage_file.proofs.staging.Stage.place.Goals as goal

pub returns-clause-log : goal.returns-clause-log
returns-clause-log g c =
    let from = c.args.name in
    let to = c.args.path.now in
    GoesOn-map _ _ _ _ (GoesOn-given _ _ _ (λ l. IsSome (live_of l from)) (does (Rename from to) c.rename.result _ _ (subst (λ (p : List ℕ). Does (Rename p to) c.rename.result (g.H.Host.log c.args.host.now) (g.H.Host.log c.rename.new.self)) c.name.view_is c.rename.ensures.log)) c.requires)
    (λ l a x. places from to c.rename.result l a x.0 x.1)
