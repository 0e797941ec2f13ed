use Rattle.std.proofs.Common.{◌≡◌, take, drop}
use Rattle.snapshot_ops.specs.Cases.{bad_among}
use Rattle.snapshot_ops.proofs.checks.names_of.Given as goal

abbrev pub invariant-loop-i : goal.invariant-loop-i
invariant-loop-i l = record {
  same : l.names.items ≡ take l.i l.texts;
  good : bad_among l.texts ≡ bad_among (drop l.i l.texts);
}
