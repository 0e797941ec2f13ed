use Rattle.std.proofs.Common.{◌≡◌, drop}
use Rattle.mirror_ops.specs.Settings.{bad_among}
use Rattle.mirror_ops.proofs.names.check_names.Given as goal

abbrev pub invariant-loop-i : goal.invariant-loop-i
invariant-loop-i l = bad_among l.part l.texts ≡ bad_among l.part (drop l.i l.texts)
