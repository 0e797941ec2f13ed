use Rattle.std.proofs.Common.{◌≡◌, [], take}
use Rattle.package_list.specs.Sorted.{union}
use Rattle.depend_pull.specs.Seeds.{seed_cmp}
use Rattle.depend_pull.proofs.pull.set_of.Given as goal

abbrev pub invariant-loop-offer : goal.invariant-loop-offer
invariant-loop-offer l = l.set.keys ≡ union seed_cmp [] (take l.offer-index l.taken)
