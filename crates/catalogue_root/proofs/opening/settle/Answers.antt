use Rattle.std.proofs.lemmas.Result.{err_from_is_err_and}
use Rattle.std.proofs.Common.{◌++◌}
use Rattle.ap_host.specs.Disk.{extended, live_of, Durable}
use Rattle.ap_host.proofs.ChangeLemmas.{EachOp-append, GoesOn-map, GoesOn-then}
use Rattle.run_model.specs.Run.{Keeps}
use Rattle.run_model.proofs.Growing.{keeps_of}
use Rattle.machine_state.specs.Values.{StateView}
use Rattle.catalogue_root.specs.Store.{store}
use Rattle.catalogue_root.specs.Store.{Open}
use Rattle.catalogue_root.specs.Opens.{IsSettling}
use Rattle.catalogue_root.proofs.CommitLemmas.{barriers_each}
use Rattle.catalogue_root.proofs.SettleLemmas.{clears_each, clear_phase, settle_phase, settle_ready, settle_durable, keeps_serve, settling_live, settles_err}
use Rattle.catalogue_root.proofs.opening.settle.Goals as goal

pub returns-in_err-clear-clause-log : goal.returns-in_err-clear-clause-log
returns-in_err-clear-clause-log g c =
    let e = err_from_is_err_and c.from_residual.result c.from_residual.ensures.1 in
    GoesOn-map _ _ _ _ c.clear.ensures.log (λ l a w. settles_err _ e.0 l a e.1 (clears_each IsSettling (λ p is. is) a w.only) (λ s durable stands. clear_phase s l durable stands a w.only))

pub returns-clause-log : goal.returns-clause-log
returns-clause-log g c =
    let st = c.clear.new.self in
    let r = c.barrier.result in
    let old = c.args.stage.now in
    GoesOn-then _ _ _ _ _ _ c.in_ok-clear.ensures.log c.barrier.ensures.log (λ l a b w barriers.
    let only = EachOp-append IsSettling a b (clears_each IsSettling (λ p is. is) a w.only) (barriers_each IsSettling st r (extended a l) b tt barriers) in
    let kept : (s : StateView) → Durable l → Open (live_of l) s → Keeps store s l (a ++ b) = λ s durable stands. keeps_of store s l (a ++ b) (settle_phase s l durable stands a b w.only st r barriers) in
    record {
      only = only;
      keeps = λ s durable stands. kept s durable stands;
      serves = λ s durable stands. keeps_serve s l (a ++ b) (kept s durable stands);
      ready = λ s durable stands. settle_ready s l durable stands a b w.only st r barriers old w.marked w.cleared;
      durable = settle_durable l a b old st w.marked r barriers;
      same = λ q not. settling_live q not _ l only;
    })
