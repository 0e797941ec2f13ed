use Rattle.std.proofs.Common.{arith, sym, ap, take, ◌∙◌}
use Rattle.command_table.specs.Table.{rule}
use Rattle.command_table.specs.Flags.{flag_stands}
use Rattle.command_table.proofs.Standing.{flags_stand-more, both, second_fails}
use Rattle.command_table.proofs.flags.standing_flags.Goals as goal

pub returns-then-not-branch : goal.returns-then-not-branch
returns-then-not-branch c =
    let more = flags_stand-more (rule c.args.row.now).flags c.args.flags.now c.loop-i.i c.index-flags-i.result c.loop-i-test.true c.index-flags-i.is in
    let said = ap (flag_stands (rule c.args.row.now).flags (take c.loop-i.i c.args.flags.now)) (sym c.as_str.ensures) ∙ sym c.in_ok-flag_stands.ensures ∙ c.if-not-branch.true in
    (omega arith, c.loop-i.invariant, λ _. second_fails _ _ more c.loop-i.invariant said)

pub loop-i-preserved : goal.loop-i-preserved
loop-i-preserved c =
    let more = flags_stand-more (rule c.args.row.now).flags c.args.flags.now c.loop-i.i c.index-flags-i.result c.loop-i-test.true c.index-flags-i.is in
    let said = ap (flag_stands (rule c.args.row.now).flags (take c.loop-i.i c.args.flags.now)) (sym c.as_str.ensures) ∙ sym c.in_ok-flag_stands.ensures ∙ c.if-not-branch.false in
    both _ _ more c.loop-i.invariant said
