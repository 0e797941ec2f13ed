use Rattle.std.proofs.lemmas.Result.{err_from_is_err_and}
use Rattle.ap_host.proofs.ChangeLemmas.{GoesOn-map}
use Rattle.catalogue_root.proofs.SettleLemmas.{settles_other}
use Rattle.catalogue_root.proofs.opening.settled.Goals as goal

pub returns-clause-log : goal.returns-clause-log
returns-clause-log g c = GoesOn-map _ _ _ _ c.in_ok-settle.ensures.log (λ l a w. record { only = w.only; keeps = w.keeps; serves = w.serves; ready = w.ready; durable = w.durable; same = w.same })

pub returns-in_err-settle-clause-log : goal.returns-in_err-settle-clause-log
returns-in_err-settle-clause-log g c =
    let e = err_from_is_err_and c.from_residual.result c.from_residual.ensures.1 in
    GoesOn-map _ _ _ _ c.in_err-settle.ensures.log (λ l a w. settles_other _ c.from_residual.result e.0 e.1 l a w)
