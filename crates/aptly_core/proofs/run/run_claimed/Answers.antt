use Rattle.std.proofs.Common.{subst}
use Rattle.ap_host.proofs.ChangeLemmas.{GoesOn-map, GoesOn-then}
use Rattle.aptly_core.specs.Runs.{IsEnd}
use Rattle.aptly_core.proofs.CallLemmas.{claimed_none, claimed_ran, load_no_end}
use Rattle.aptly_core.proofs.run.run_claimed.Goals as goal

pub returns-in-Ok-clause-log : goal.returns-in-Ok-clause-log
returns-in-Ok-clause-log g c =
    GoesOn-then _ _ _ _ _ _ c.in-Ok.ensures.log c.run_list.ensures.log (λ l a b w y. claimed_ran _ _ _ c.run_list.result c.in-Ok.state _ l a b c.in-Ok.ensures.valid c.run_list.ensures.only c.run_list.ensures.comes w y)

pub returns-in-Err-clause-log : goal.returns-in-Err-clause-log
returns-in-Err-clause-log g c = GoesOn-map _ _ _ _ c.in-Err.ensures.log (λ l a w. claimed_none _ _ _ c.in-Err.fault c.status_of_load.result c.status_of_load.ensures.value l a w)

pub returns-in-Ok-clause-ended : goal.returns-in-Ok-clause-ended
returns-in-Ok-clause-ended g c end = (c.in-Ok.state, c.in-Ok.ensures.valid, c.run_list.ensures.comes c.in-Ok.ensures.valid)

pub returns-in-Err-clause-ended : goal.returns-in-Err-clause-ended
returns-in-Err-clause-ended g c end = absurd (load_no_end c.in-Err.fault (subst IsEnd c.status_of_load.ensures.value end))
