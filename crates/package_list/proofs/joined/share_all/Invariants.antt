use Rattle.std.proofs.Common.{◌≡◌, ◌++◌, map}
use Rattle.std.specs.Rc.{rc_value}
use Rattle.package_list.proofs.joined.share_all.Given as goal

abbrev pub invariant-loop-held : goal.invariant-loop-held
invariant-loop-held l = map rc_value l.shared.items ++ map rc_value l.held-iterator.rest.items ≡ map rc_value l.fn.packages.items
