use Rattle.std.proofs.Common.{List, Ok, map}
use Rattle.std.specs.Rc.{rc_value}
use Rattle.std.proofs.lemmas.Result.{err_from_is_err_and}
use Rattle.ap_host.proofs.ChangeLemmas.{GoesOn-map}
use Rattle.package_core.specs.Card.{Card}
use Rattle.package_intake.specs.Inside.{path_at}
use Rattle.package_intake.proofs.ArrivalLemmas.{told_err}
use Rattle.package_intake.proofs.LogLemmas.{all_fails}
use Rattle.mirror_update.specs.Arrival.{files_arrive}
use Rattle.mirror_update.proofs.TakeLemmas.{check_fault, take_fault, taken_ok}
use Rattle.mirror_update.proofs.arrive.take_list.Goals as goal

pub returns-in_err-list-clause-told : goal.returns-in_err-list-clause-told
returns-in_err-list-clause-told g c catalogue short f told =
    let e = err_from_is_err_and c.from_residual.result c.from_residual.ensures.1 in
    let known = c.args.known.now in
    let folder = c.args.folder.now in
    let path = path_at c.args.paths.now in
    let ps : List Card = map rc_value c.args.chosen.now in
    told_err c.from_residual.result e.0 c.in_err-list.field-0.0 (files_arrive f known folder path ps) e.1 e.2
    (take_fault f known folder path ps c.in_err-list.field-0.0 (c.in_err-list.ensures.told catalogue short f told))

pub returns-in_err-check_known-clause-told : goal.returns-in_err-check_known-clause-told
returns-in_err-check_known-clause-told g c catalogue short f told =
    let e = err_from_is_err_and c.from_residual-in_err-check_known.result c.from_residual-in_err-check_known.ensures.1 in
    let known = c.args.known.now in
    let folder = c.args.folder.now in
    let path = path_at c.args.paths.now in
    let ps : List Card = map rc_value c.args.chosen.now in
    let fault = c.in_err-check_known.field-0.0 in
    told_err c.from_residual-in_err-check_known.result e.0 fault (files_arrive f known folder path ps) e.1 e.2
    (check_fault f known folder path ps fault c.in_ok-list.list (c.in_ok-list.ensures.told catalogue short f told) c.in_err-check_known.ensures.answer)

pub returns-in_err-check_known-clause-log : goal.returns-in_err-check_known-clause-log
returns-in_err-check_known-clause-log g c =
    GoesOn-map _ _ _ _ c.in_ok-list.ensures.log (λ l a h. all_fails _ _ _ (Ok c.in_ok-list.list) c.from_residual-in_err-check_known.result _ _ l a c.from_residual-in_err-check_known.ensures.0 h)

pub returns-clause-told : goal.returns-clause-told
returns-clause-told g c catalogue short f told =
    taken_ok f c.args.known.now c.args.folder.now (path_at c.args.paths.now) (map rc_value c.args.chosen.now) c.in_ok-list.list (c.in_ok-list.ensures.told catalogue short f told) c.in_ok-check_known.ensures.answer
