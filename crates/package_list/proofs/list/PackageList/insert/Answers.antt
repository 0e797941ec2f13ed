use Rattle.std.proofs.Common.{map}
use Rattle.std.specs.Rc.{rc_value}
use Rattle.package_core.specs.Order.{package_cmp}
use Rattle.package_core.proofs.OrderLaws.{package_total}
use Rattle.package_list.specs.Sorted.{IsAscending}
use Rattle.package_list.proofs.SortedLemmas.{put_ascending, by_result}
use Rattle.package_list.proofs.list.PackageList.insert.Goals as goal

pub invariant_of-self : goal.invariant_of-self
invariant_of-self c =
    by_result (IsAscending package_cmp) c.insert_into.result (map rc_value c.self.inside.items.items) _ _ c.insert_into.ensures.ok c.insert_into.ensures.err
    (put_ascending package_total (map rc_value c.self.inside.items.items) c.args.new c.self.invariant) c.self.invariant
