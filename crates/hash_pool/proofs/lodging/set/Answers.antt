use Rattle.std.proofs.Common.{true, ◌∙◌, ap, subst}
use Rattle.std.proofs.lemmas.Result.{err_from_is_err_and}
use Rattle.ap_host.specs.Disk.{Path}
use Rattle.ap_host.specs.Changes.{GoesOn}
use Rattle.ap_host.proofs.ChangeLemmas.{GoesOn-then, GoesOn-map}
use Rattle.stage_file.specs.Stage.{StageState, Places}
use Rattle.hash_pool.proofs.SetLemmas.{sets_broken, sets_placed}
use Rattle.hash_pool.proofs.lodging.set.Goals as goal

pub returns-in_err-name-clause-log : goal.returns-in_err-name-clause-log
returns-in_err-name-clause-log g c =
    let e = err_from_is_err_and c.from_residual.result c.from_residual.ensures.1 in
    let n = c.args.stage.now.next in
    GoesOn-map _ _ _ _ c.lay.ensures.log (λ l a lays. sets_broken n c.args.path.now c.args.bytes.now c.args.stage.now c.lay.new.self _ e.0 l a e.1 c.lay.ensures.stage lays.only)

pub returns-clause-log : goal.returns-clause-log
returns-clause-log g c =
    let n = c.args.stage.now.next in
    let path = c.args.path.now in
    let name = c.in_ok-name.name in
    let r = c.place.result in
    let stage = c.place.ensures.stage ∙ ap (λ (s : StageState). let t : StageState = record { next = s.next; touched = true } in t) c.lay.ensures.stage in
    let placed = subst (λ (p : Path). GoesOn (g.H.Host.log c.lay.new.host) (g.H.Host.log c.place.new.host) (Places p path r)) c.in_ok-name.ensures.name c.place.ensures.log in
    GoesOn-then _ _ _ _ _ _ c.in_ok-name.ensures.log placed (λ l a b lays places. sets_placed n path c.args.bytes.now c.args.stage.now c.place.new.self name r l a b stage lays places)
