use Rattle.std.proofs.Common.{Some, None}
use Rattle.command_table.specs.Table.{rule}
use Rattle.command_words.proofs.Fronts.{flags_fault_at, all_stand_at, judged, arguments_fault_at, nothing_wrong, row_ends_at}
use Rattle.command_words.proofs.read.row_fault.Goals as goal

pub returns-then-standing-flags : goal.returns-then-standing-flags
returns-then-standing-flags c =
    flags_fault_at (rule c.args.row.now) c.args.words.now c.flags_of-flags.result.now c.in_ok-standing.standing c.flags_of-flags.ensures c.if-standing-flags.true c.in_ok-standing.ensures

pub returns-in-Some : goal.returns-in-Some
returns-in-Some c =
    let row = rule c.args.row.now in
    let stand = all_stand_at row c.args.words.now c.flags_of-flags.result.now c.in_ok-standing.standing c.flags_of-flags.ensures c.if-standing-flags.false c.in_ok-standing.ensures in
    let fault = judged row c.args.words.now c.flags_of-flags.result.now c.arguments_of-arguments.result.now c.in_ok-components.components (Some c.in-Some.place) c.flags_of-flags.ensures c.arguments_of-arguments.ensures c.in_ok-components.ensures.count c.in-Some.ensures in
    arguments_fault_at row c.args.words.now c.arguments_of-arguments.result.now c.in-Some.place c.arguments_of-arguments.ensures stand fault

pub returns-in-None : goal.returns-in-None
returns-in-None c =
    let row = rule c.args.row.now in
    let stand = all_stand_at row c.args.words.now c.flags_of-flags.result.now c.in_ok-standing.standing c.flags_of-flags.ensures c.if-standing-flags.false c.in_ok-standing.ensures in
    let right = judged row c.args.words.now c.flags_of-flags.result.now c.arguments_of-arguments.result.now c.in_ok-components.components None c.flags_of-flags.ensures c.arguments_of-arguments.ensures c.in_ok-components.ensures.count c.in-None.ensures in
    (nothing_wrong row c.args.words.now stand right.0, row_ends_at row c.args.words.now right.1)
