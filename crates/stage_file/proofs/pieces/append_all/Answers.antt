use Rattle.std.proofs.Common.{◌≡◌, IsSome, ◌++◌, ◌≤◌, ◌<◌, ◌+◌, ◌-◌, take, drop, length, length-drop, refl, arith}
use Rattle.std.proofs.lemmas.List.{length-take}
use Rattle.std.proofs.lemmas.Result.{err_from_is_err_and}
use Rattle.ap_host.specs.declared.host.Op.TheVariants.{Append}
use Rattle.ap_host.specs.Disk.{live_of}
use Rattle.ap_host.proofs.ChangeLemmas.{does, GoesOn-then, GoesOn-end, GoesOn-map, GoesOn-given}
use Rattle.stage_file.specs.Stage.{AppendsSoFar}
use Rattle.stage_file.proofs.StageLemmas.{ran, appended_some, appends_first, appends_more, appends_err, pieces, piece, lays_did, lays_then}
use Rattle.stage_file.proofs.pieces.append_all.Goals as goal

pub returns-in_err-append-clause-log : goal.returns-in_err-append-clause-log
returns-in_err-append-clause-log g c =
    let p = c.args.path.now in
    let bytes = c.args.bytes.now in
    let e = err_from_is_err_and c.from_residual.result c.from_residual.ensures.1 in
    let small : c.min-at.result ≤ 65536 = omega (arith, c.min-at.ensures) in
    GoesOn-map _ _ _ _ (does (Append p (take c.min-at.result bytes)) _ _ _ c.append.ensures.log)
    (λ l a d. appends_err p _ _ e.0 l a e.1 (lays_did p (Append p (take c.min-at.result bytes)) _ a (refl, piece c.min-at.result 0 bytes small) d))

pub loop-at-init : goal.loop-at-init
loop-at-init g c =
    let p = c.args.path.now in
    let bytes = c.args.bytes.now in
    let small : c.min-at.result ≤ 65536 = omega (arith, c.min-at.ensures) in
    record {
      within = omega (arith, c.min-at.ensures);
      log = GoesOn-map _ _ _ (AppendsSoFar p (take c.min-at.result bytes)) (ran _ _ _ c.in_ok-append.ensures.log.ok)
          (λ l a is. appends_first p _ l a (piece c.min-at.result 0 bytes small) is);
      later = c.append.ensures.cause.later;
    }

pub append-requires-in-loop-at : goal.append-requires-in-loop-at
append-requires-in-loop-at g c =
    let p = c.args.path.now in
    GoesOn-end _ _ _ (λ l. IsSome (live_of l p)) (GoesOn-given _ _ _ (λ l. IsSome (live_of l p)) c.loop-at.invariant.log c.requires) (λ l a h. appended_some _ _ _ h.0 h.1.live)

pub returns-in_err-append-2-clause-log : goal.returns-in_err-append-2-clause-log
returns-in_err-append-2-clause-log g c =
    let p = c.args.path.now in
    let e = err_from_is_err_and c.from_residual-in_err-append-2.result c.from_residual-in_err-append-2.ensures.1 in
    let n = c.loop-at.at + c.min.result - c.loop-at.at in
    let small : n ≤ 65536 = omega (arith, c.min.ensures) in
    GoesOn-then _ _ _ _ _ _ c.loop-at.invariant.log (does (Append p (take n (drop c.loop-at.at c.args.bytes.now))) _ _ _ c.append-in-loop-at.ensures.log)
    (λ l a b s d. appends_err p _ _ e.0 l (a ++ b) e.1 (lays_then p a b s.only (lays_did p (Append p (take n (drop c.loop-at.at c.args.bytes.now))) _ b (refl, piece n 0 (drop c.loop-at.at c.args.bytes.now) small) d)))

pub loop-at-preserved : goal.loop-at-preserved
loop-at-preserved g c =
    let p = c.args.path.now in
    let rest = drop c.loop-at.at c.args.bytes.now in
    let n = c.loop-at.at + c.min.result - c.loop-at.at in
    let small : n ≤ 65536 = omega (arith, c.min.ensures) in
    let left : length rest ≡ length c.args.bytes.now - c.loop-at.at = length-drop c.loop-at.at c.args.bytes.now in
    let some : 0 < length (take n rest) = (let size = length-take n rest in omega (arith, size, left, c.min.ensures, c.loop-at-test.true)) in
    record {
      within = omega (arith, c.min.ensures);
      log = GoesOn-then _ _ _ _ _ _ c.loop-at.invariant.log (ran _ _ _ c.in_ok-append-2.ensures.log.ok)
          (λ l a b s is. appends_more p _ _ _ l a b (pieces c.loop-at.at c.min.result c.args.bytes.now) (piece n 0 rest small) some s is);
      later = omega (arith, c.loop-at.invariant.later, c.append-in-loop-at.ensures.cause.later);
    }
