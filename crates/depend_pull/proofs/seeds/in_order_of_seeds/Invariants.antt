use Rattle.std.proofs.Common.{◌≡◌, ◌++◌, []}
use Rattle.package_list.specs.Sorted.{union}
use Rattle.depend_pull.specs.Seeds.{seed_cmp}
use Rattle.depend_pull.proofs.seeds.in_order_of_seeds.Given as goal

abbrev pub invariant-loop-member : goal.invariant-loop-member
invariant-loop-member l = l.made.items ++ l.member-iterator ≡ union seed_cmp [] l.list
