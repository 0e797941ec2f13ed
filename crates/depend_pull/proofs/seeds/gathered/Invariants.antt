use Rattle.std.proofs.Common.{◌≡◌, [], map, take}
use Rattle.std.specs.Rc.{rc_value}
use Rattle.package_list.specs.Sorted.{union}
use Rattle.depend_pull.specs.Seeds.{seed_cmp}
use Rattle.depend_pull.proofs.seeds.gathered.Given as goal

abbrev pub invariant-loop-member : goal.invariant-loop-member
invariant-loop-member l = l.set.keys ≡ union seed_cmp [] (map rc_value (take l.member-index l.member-items))
