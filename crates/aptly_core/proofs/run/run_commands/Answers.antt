use Rattle.std.proofs.Common.{Bool, Ok, subst}
use Rattle.ap_host.proofs.ChangeLemmas.{GoesOn-map, GoesOn-then}
use Rattle.aptly_core.proofs.CallLemmas.{called_claimed, called_busy, called_fault, fault_no_end}
use Rattle.aptly_core.proofs.run.run_commands.Goals as goal
use Rattle.catalogue_root.specs.Opens.{Enters}

pub returns-in-Ok-true-clause-log : goal.returns-in-Ok-true-clause-log
returns-in-Ok-true-clause-log g c =
    GoesOn-then _ _ _ _ _ _ c.in-Ok-true.ensures.log c.run_claimed.ensures.log (λ l a b w y. called_claimed _ _ tt _ c.run_claimed.result l a b (subst (λ (x : Bool). Enters (Ok x) a) c.in-Ok-true.field-0-test w) c.run_claimed.ensures.only y)

pub returns-in-Ok-false-clause-log : goal.returns-in-Ok-false-clause-log
returns-in-Ok-false-clause-log g c = GoesOn-map _ _ _ _ c.in-Ok-false.ensures.log (λ l a w. called_busy _ _ tt _ l a (subst (λ (x : Bool). Enters (Ok x) a) c.in-Ok-false.field-0-test w))

pub returns-in-Err-clause-log : goal.returns-in-Err-clause-log
returns-in-Err-clause-log g c = GoesOn-map _ _ _ _ c.in-Err.ensures.log (λ l a w. called_fault _ _ tt _ c.status_of_host.result l c.status_of_host.ensures.fault a w)

pub returns-in-Err-clause-ended : goal.returns-in-Err-clause-ended
returns-in-Err-clause-ended g c end = absurd (fault_no_end c.status_of_host.result c.status_of_host.ensures.fault end)
