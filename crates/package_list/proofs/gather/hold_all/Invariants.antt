use Rattle.std.proofs.Common.{◌≡◌, ◌++◌, map}
use Rattle.std.specs.Rc.{rc_value}
use Rattle.package_list.proofs.gather.hold_all.Given as goal

abbrev pub invariant-loop-package : goal.invariant-loop-package
invariant-loop-package l = map rc_value l.held.items ++ l.package-iterator.rest.items ≡ l.fn.packages.items
