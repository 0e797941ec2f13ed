use Rattle.ap_host.proofs.ChangeLemmas.{GoesOn-map}
use Rattle.aptly_core.proofs.CallLemmas.{tells_usage, tells_other, fault_no_usage}
use Rattle.aptly_core.proofs.run.tell_usage.Goals as goal

pub returns-in-Ok-clause-log : goal.returns-in-Ok-clause-log
returns-in-Ok-clause-log g c = GoesOn-map _ _ _ _ c.in-Ok.ensures.log (λ l a w. tells_usage c.args.place _ a w)

pub returns-in-Err-clause-log : goal.returns-in-Err-clause-log
returns-in-Err-clause-log g c = GoesOn-map _ _ _ _ c.in-Err.ensures.log (λ l a w. tells_other c.args.place _ c.status_of_host.result a (λ p e. fault_no_usage c.status_of_host.result p c.status_of_host.ensures.fault e) w)
