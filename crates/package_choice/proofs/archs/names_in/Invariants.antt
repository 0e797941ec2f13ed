use Rattle.std.proofs.Common.{◌≡◌, ◌++◌}
use Rattle.package_choice.proofs.archs.names_in.Given as goal

abbrev pub invariant-loop-member : goal.invariant-loop-member
invariant-loop-member l = l.names.items ++ l.member-iterator ≡ l.fn.set.keys
