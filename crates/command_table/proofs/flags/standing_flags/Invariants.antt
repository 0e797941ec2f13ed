use Rattle.std.proofs.Common.{◌≡◌, true, take}
use Rattle.command_table.specs.Flags.{flags_stand}
use Rattle.command_table.specs.Table.{rule}
use Rattle.command_table.proofs.flags.standing_flags.Given as goal

abbrev pub invariant-loop-i : goal.invariant-loop-i
invariant-loop-i l = flags_stand (rule l.row).flags (take l.i l.flags) ≡ true
