use Rattle.std.proofs.Common.{◌≡◌, [], Option, Ok, Err, refl, subst}
use Rattle.ap_host.specs.Disk.{Log, live_of}
use Rattle.ap_host.specs.Changes.{GoesOn}
use Rattle.ap_host.proofs.ChangeLemmas.{GoesOn-map, GoesOn-none, GoesOn-given}
use Rattle.catalogue_root.specs.Opens.{SettlesTo}
use Rattle.catalogue_root.specs.Loads.{MayLoad}
use Rattle.catalogue_root.proofs.OpenLemmas.{opens_so, opens_err}
use Rattle.catalogue_root.proofs.opening.open_store.Goals as goal

pub returns-in-Ok-clause-log : goal.returns-in-Ok-clause-log
returns-in-Ok-clause-log g c =
    let settled = subst (λ (o : Option Log). GoesOn o (g.H.Host.log c.settled.new.host) (SettlesTo c.settled.result)) c.load.ensures.log c.settled.ensures.log in
    GoesOn-map _ _ _ _ (GoesOn-given _ _ _ (λ l. MayLoad (live_of l) (Ok c.in-Ok.state)) settled c.in-Ok.ensures.told) (λ l a w. opens_so c.in-Ok.state c.settled.result l a w.0 c.settled.ensures.state c.settled.ensures.fault w.1)

pub returns-in-Err-clause-log : goal.returns-in-Err-clause-log
returns-in-Err-clause-log g c =
    GoesOn-map _ _ _ _ (GoesOn-given _ _ (λ l ops. ops ≡ []) (λ l. MayLoad (live_of l) (Err c.in-Err.fault)) (GoesOn-none _ _ _ c.load.ensures.log (λ l. refl)) c.in-Err.ensures.told) (λ l a w. opens_err c.in-Err.fault l a w.1 w.0)
