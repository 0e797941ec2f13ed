use Rattle.std.proofs.Common.{map}
use Rattle.std.specs.Rc.{rc_value}
use Rattle.package_list.proofs.Pushes.{behind_by_last, mapped_push}
use Rattle.package_list.proofs.push.is_behind.Goals as goal

pub returns-in-Some : goal.returns-in-Some
returns-in-Some c =
    behind_by_last _ _ (map rc_value c.args.items.now) (map rc_value c.in-Some.field-0-1.now) c.package_of.result.now c.args.new.now c.requires
    (rw c.package_of.ensures (mapped_push rc_value c.args.items.now _ c.in-Some.last.now c.in-Some.ensures.cases.0)) c.is_lt.ensures c.compare_packages.ensures
