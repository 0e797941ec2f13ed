use Rattle.std.proofs.Common.{IsSome, [], ◌++◌, refl}
use Rattle.std.proofs.lemmas.Result.{err_from_is_err_and}
use Rattle.ap_host.specs.declared.host.Op.TheVariants.{Create, Sync}
use Rattle.ap_host.specs.Disk.{live_of}
use Rattle.ap_host.proofs.ChangeLemmas.{does, GoesOn-map, GoesOn-then, GoesOn-end}
use Rattle.stage_file.proofs.StageLemmas.{ran, created, is_some, Written, written, laid, lays_err, lays_ran, lays_did, lays_then}
use Rattle.stage_file.proofs.pieces.lay_at.Goals as goal

pub returns-in_err-create-clause-log : goal.returns-in_err-create-clause-log
returns-in_err-create-clause-log g c =
    let p = c.args.path.now in
    let e = err_from_is_err_and c.from_residual.result c.from_residual.ensures.1 in
    GoesOn-map _ _ _ _ (does (Create p) _ _ _ c.create.ensures.log) (λ l a d. lays_err p _ _ e.0 l a e.1 (lays_did p (Create p) _ a refl d))

pub append_all-requires : goal.append_all-requires
append_all-requires g c =
    let p = c.args.path.now in
    GoesOn-end _ _ _ (λ l. IsSome (live_of l p)) (ran _ _ _ c.in_ok-create.ensures.log.ok) (λ l a is. is_some _ [] (created l p a is))

pub returns-in_err-append_all-clause-log : goal.returns-in_err-append_all-clause-log
returns-in_err-append_all-clause-log g c =
    let p = c.args.path.now in
    let e = err_from_is_err_and c.from_residual-in_err-append_all.result c.from_residual-in_err-append_all.ensures.1 in
    GoesOn-then _ _ _ _ _ _ (ran _ _ _ c.in_ok-create.ensures.log.ok) c.append_all.ensures.log
    (λ l a b is s. lays_err p _ _ e.0 l (a ++ b) e.1 (lays_then p a b (lays_ran p (Create p) a refl is) s.only))

pub sync-requires : goal.sync-requires
sync-requires g c =
    let p = c.args.path.now in
    let bytes = c.args.bytes.now in
    let so_far = GoesOn-then _ _ _ _ _ (Written p bytes) (ran _ _ _ c.in_ok-create.ensures.log.ok) c.in_ok-append_all.ensures.log (λ l a b is s. written p bytes l a b is s) in
    GoesOn-end _ _ _ (λ l. IsSome (live_of l p)) so_far (λ l a w. is_some _ bytes w.live)

pub returns-in_err-sync-clause-log : goal.returns-in_err-sync-clause-log
returns-in_err-sync-clause-log g c =
    let p = c.args.path.now in
    let bytes = c.args.bytes.now in
    let e = err_from_is_err_and c.from_residual-in_err-sync.result c.from_residual-in_err-sync.ensures.1 in
    let so_far = GoesOn-then _ _ _ _ _ (Written p bytes) (ran _ _ _ c.in_ok-create.ensures.log.ok) c.in_ok-append_all.ensures.log (λ l a b is s. written p bytes l a b is s) in
    GoesOn-then _ _ _ _ _ _ so_far (does (Sync p) _ _ _ c.sync.ensures.log)
    (λ l a b w d. lays_err p _ _ e.0 l (a ++ b) e.1 (lays_then p a b w.only (lays_did p (Sync p) _ b refl d)))

pub returns-clause-log : goal.returns-clause-log
returns-clause-log g c =
    let p = c.args.path.now in
    let bytes = c.args.bytes.now in
    let so_far = GoesOn-then _ _ _ _ _ (Written p bytes) (ran _ _ _ c.in_ok-create.ensures.log.ok) c.in_ok-append_all.ensures.log (λ l a b is s. written p bytes l a b is s) in
    GoesOn-then _ _ _ _ _ _ so_far (ran _ _ _ c.in_ok-sync.ensures.log.ok) (λ l a b w is. laid p bytes _ l a b w is)
