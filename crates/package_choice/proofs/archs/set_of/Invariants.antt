use Rattle.std.proofs.Common.{◌≡◌, [], take}
use Rattle.package_core.specs.Order.{text_cmp}
use Rattle.package_list.specs.Sorted.{union}
use Rattle.package_choice.proofs.archs.set_of.Given as goal

abbrev pub invariant-loop-name : goal.invariant-loop-name
invariant-loop-name l = l.set.keys ≡ union text_cmp [] (take l.name-index l.names)
