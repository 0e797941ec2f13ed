use Rattle.std.proofs.Common.{map, arith}
use Rattle.std.specs.Rc.{rc_value}
use Rattle.std.proofs.lemmas.List.{drop_all, length-map}
use Rattle.package_list.proofs.SortedLemmas.{drop_at_member}
use Rattle.package_list.proofs.place.shared_at.Goals as goal

pub returns-then-place-items : goal.returns-then-place-items
returns-then-place-items c =
    drop_at_member rc_value c.args.items.now c.args.place c.index-items-place.result (omega arith) c.index-items-place.is

pub returns-else-place-items : goal.returns-else-place-items
returns-else-place-items c = drop_all c.args.place (map rc_value c.args.items.now) (omega (arith, length-map c.args.items.now rc_value))
