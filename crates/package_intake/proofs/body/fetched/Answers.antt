use Rattle.std.proofs.Common.{◌≡◌, Result, Ok, Err, IfOk}
use Rattle.package_core.specs.Card.{Card, completed}
use Rattle.machine_state.specs.declared.arrived.UpdateFault.{UpdateFault}
use Rattle.digest_set.specs.declared.facts.Digests.{Digests}
use Rattle.hash_pool.specs.declared.fault.PoolFault.{PoolFault}
use Rattle.ap_host.proofs.ChangeLemmas.{GoesOn-map}
use Rattle.package_intake.proofs.LogLemmas.{made_of, fetched_adds}
use Rattle.package_intake.proofs.FaultLemmas.{pool_any, pool_file}
use Rattle.package_intake.proofs.body.fetched.Goals as goal

with_found : (out : Result Card UpdateFault) (p : Card) (r : Result Digests PoolFault) (found : Digests) (D : Type 0) → r ≡ Ok found → IfOk out (λ q. D × (q ≡ completed p found)) → IfOk out (λ q. (d : Digests) × (r ≡ Ok d) × (q ≡ completed p d))
with_found (Err e) p r found D is h = tt
with_found (Ok q) p r found D is h = (found, is, h.1)

pub returns-in-Ok-clause-log : goal.returns-in-Ok-clause-log
returns-in-Ok-clause-log g c =
    let p = c.args.one.now in
    let path = c.args.path.now in
    let made = with_found c.completed.result p c.take.result c.in-Ok.found _ c.in-Ok.is (made_of c.completed.result path p c.in-Ok.found c.completed.ensures.answer) in
    GoesOn-map _ _ _ _ c.take.ensures.log (λ l a h. fetched_adds _ path p c.take.result c.completed.result _ _ l a h made)

pub returns-in-Err-clause-log : goal.returns-in-Err-clause-log
returns-in-Err-clause-log g c =
    GoesOn-map _ _ _ _ c.take.ensures.log (λ l a h. fetched_adds _ c.args.path.now c.args.one.now c.take.result (Err c.of_pool.result) _ _ l a h tt)

pub returns-in-Err-clause-fault : goal.returns-in-Err-clause-fault
returns-in-Err-clause-fault g c =
    pool_any c.args.path.now c.args.one.now.said c.in-Err.fault c.of_pool.result c.of_pool.ensures c.in-Err.ensures.compares

pub returns-in-Err-clause-mismatch : goal.returns-in-Err-clause-mismatch
returns-in-Err-clause-mismatch g c =
    pool_file c.args.path.now c.args.one.now.said c.in-Err.fault c.of_pool.result c.of_pool.ensures c.in-Err.ensures.compares
