use Rattle.std.proofs.Common.{◌<◌, ◌≤◌, refl, sym, ◌∙◌, arith, Ok, Err, Result, subst}
use Rattle.std.proofs.lemmas.Result.{err_from_is_err_and, IfOk-from_err}
use Rattle.machine_state.specs.declared.arrived.UpdateFault.{UpdateFault}
use Rattle.package_intake.specs.Taking.{taken_file}
use Rattle.package_intake.specs.Steps.{Gives, FaultGives}
use Rattle.ap_host.specs.Disk.{extended, live_of}
use Rattle.ap_host.proofs.ChangeLemmas.{GoesOn-map, GoesOn-none}
use Rattle.machine_state.specs.declared.limit.Limit.TheVariants.{File}
use Rattle.machine_state.specs.Limits.{limit_number}
use Rattle.package_core.specs.Card.{Card}
use Rattle.package_core.proofs.OrderLaws.{package_total}
use Rattle.hash_pool.specs.Bodies.{HasBody}
use Rattle.package_intake.proofs.TakenLemmas.{taken_large, taken_fault, taken_ok, where_whole, tells_gives, completed_taken}
use Rattle.package_intake.proofs.LogLemmas.{nothing_adds, adds_on, known_body, stands_body}
use Rattle.package_intake.proofs.body.take_one.Goals as goal

pub returns-then-one-number-clause-told : goal.returns-then-one-number-clause-told
returns-then-one-number-clause-told g c catalogue f told =
    let large : limit_number File < c.args.one.now.said.size = omega (arith, c.if-one-number.true, c.number.ensures) in
    tells_gives c.over.result _ _ c.over.ensures (taken_large f c.args.known.now c.args.path.now c.args.one.now large)

pub returns-then-one-number-clause-log : goal.returns-then-one-number-clause-log
returns-then-one-number-clause-log g c = GoesOn-none _ _ _ refl (λ l. nothing_adds _ _ _ (Err c.over.result) _ l tt)

pub returns-in_err-made-clause-told : goal.returns-in_err-made-clause-told
returns-in_err-made-clause-told g c catalogue f told =
    let e = err_from_is_err_and c.from_residual.result c.from_residual.ensures.1 in
    let p = c.args.one.now in
    let small : p.said.size ≤ limit_number File = omega (arith, c.if-one-number.false, c.number.ensures) in
    let is = c.requires.files p.said.sha256 in
    let given = where_whole _ c.args.known.now p.said.sha256 _ catalogue is c.in_err-made.ensures.told f told in
    let fault : FaultGives c.in_err-made.field-0.0 (taken_file f c.args.known.now c.args.path.now p) = taken_fault f c.args.known.now c.args.path.now p _ c.in_err-made.field-0.0 is small given in
    subst (λ (r : Result Card UpdateFault). Gives r (taken_file f c.args.known.now c.args.path.now p)) (sym e.1) (subst (λ (x : UpdateFault). FaultGives x (taken_file f c.args.known.now c.args.path.now p)) (sym e.2) fault)

pub returns-in_err-made-clause-log : goal.returns-in_err-made-clause-log
returns-in_err-made-clause-log g c =
    GoesOn-map _ _ _ _ c.made.ensures.log (λ l a h. adds_on _ _ _ _ c.from_residual.result c.made.result _ _ l a (known_body c.args.known.now c.args.one.now.said.sha256 _ (live_of l) (c.requires.files c.args.one.now.said.sha256)) h (IfOk-from_err c.from_residual.result _ c.from_residual.ensures.0))

pub returns-in_err-stand-clause-log : goal.returns-in_err-stand-clause-log
returns-in_err-stand-clause-log g c =
    GoesOn-map _ _ _ _ c.made.ensures.log (λ l a h. adds_on _ _ _ _ c.from_residual-in_err-stand.result c.made.result _ _ l a (known_body c.args.known.now c.args.one.now.said.sha256 _ (live_of l) (c.requires.files c.args.one.now.said.sha256)) h (IfOk-from_err c.from_residual-in_err-stand.result _ c.from_residual-in_err-stand.ensures.0))

pub returns-clause-told : goal.returns-clause-told
returns-clause-told g c catalogue f told =
    let p = c.args.one.now in
    let small : p.said.size ≤ limit_number File = omega (arith, c.if-one-number.false, c.number.ensures) in
    let is = c.requires.files p.said.sha256 in
    let given = where_whole _ c.args.known.now p.said.sha256 _ catalogue is c.in_ok-made.ensures.told f told in
    taken_ok f c.args.known.now c.args.path.now p _ c.in_ok-made.made c.in_ok-stand.field-0 is small given c.in_ok-stand.ensures.value

pub returns-clause-taken : goal.returns-clause-taken
returns-clause-taken g c catalogue described said =
    let p = c.args.one.now in
    let small : p.said.size ≤ limit_number File = omega (arith, c.if-one-number.false, c.number.ensures) in
    let is = c.requires.files p.said.sha256 in
    let given = where_whole _ c.args.known.now p.said.sha256 _ catalogue is c.in_ok-made.ensures.made in
    completed_taken c.args.known.now p c.in_ok-made.made c.in_ok-stand.field-0 catalogue described said small given c.in_ok-stand.ensures.value

pub returns-clause-log : goal.returns-clause-log
returns-clause-log g c =
    let known = c.args.known.now in
    GoesOn-map _ _ _ _ c.made.ensures.log (λ l a h. adds_on _ _ _ _ (Ok c.in_ok-stand.field-0) c.made.result _ _ l a (known_body known c.args.one.now.said.sha256 _ (live_of l) (c.requires.files c.args.one.now.said.sha256)) h
    (c.in_ok-made.made, c.in_ok-made.was, λ all grown body. subst (HasBody (live_of (extended a l))) (sym c.in_ok-stand.ensures.value) (stands_body known c.in_ok-made.made l (extended a l) grown all body)))

pub returns-clause-same : goal.returns-clause-same
returns-clause-same g c = package_total.congr c.args.one.now c.in_ok-made.made c.in_ok-stand.field-0 c.in_ok-made.ensures.same ∙ c.in_ok-stand.ensures.same
