use Rattle.std.proofs.Common.{◌≡◌, drop}
use Rattle.package_choice.specs.Choice.{bad_archs}
use Rattle.package_choice.proofs.check.check_archs.Given as goal

abbrev pub invariant-loop-i : goal.invariant-loop-i
invariant-loop-i l = bad_archs l.texts ≡ bad_archs (drop l.i l.texts)
