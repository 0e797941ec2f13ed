use Rattle.std.proofs.Common.{ap, arith, length}
use Rattle.machine_state.specs.Values.{StateView}
use Rattle.snapshot_pull.proofs.NewLemmas.{room_fits, room_full}
use Rattle.snapshot_pull.proofs.making.room.Goals as goal

pub returns-then-len-number-clause-fault : goal.returns-then-len-number-clause-fault
returns-then-len-number-clause-fault c = λ came.
    let count = ap (λ (s : StateView). length s.snapshots) c.state.view_is in
    room_full c.args.state.now came (omega (arith, c.if-len-number.true, c.len.ensures, c.number.ensures, count, c.state.inside.snapshots.ok.0))

pub returns-clause-good : goal.returns-clause-good
returns-clause-good c = λ came.
    let count = ap (λ (s : StateView). length s.snapshots) c.state.view_is in
    room_fits c.args.state.now came (omega (arith, c.if-len-number.false, c.len.ensures, c.number.ensures, count, c.state.inside.snapshots.ok.0))
