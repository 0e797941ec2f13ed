use Rattle.std.proofs.Common.{◌≡◌, ◌++◌, map}
use Rattle.std.specs.BTreeMap.{get}
use Rattle.std.specs.Rc.{rc_value}
use Rattle.package_core.specs.Card.{Card}
use Rattle.package_core.specs.Order.{package_cmp}
use Rattle.package_intake.specs.Index.{cards_of, entry_for}
use Rattle.package_intake.proofs.join.split.Given as goal

abbrev pub invariant-loop-package : goal.invariant-loop-package
invariant-loop-package l =
    (map rc_value l.packages.items ≡ cards_of l.yielded)
    × (l.yielded ++ l.package-iterator.rest.items ≡ l.fn.entries.items)
    × ((q : Card) → get package_cmp l.paths q ≡ entry_for l.yielded q)
