use Rattle.std.proofs.Common.{map}
use Rattle.std.specs.Rc.{rc_value}
use Rattle.package_core.specs.Order.{same_triple}
use Rattle.package_list.proofs.Pushes.{last_of, mapped_push}
use Rattle.package_list.proofs.push.last_has_triple.Goals as goal

pub returns-in-Some : goal.returns-in-Some
returns-in-Some c =
    last_of (λ q. same_triple q c.args.new.now) (map rc_value c.args.items.now) (map rc_value c.in-Some.field-0-1.now) c.package_of.result.now _
    (rw c.package_of.ensures (mapped_push rc_value c.args.items.now _ c.in-Some.last.now c.in-Some.ensures.cases.0)) c.has_same_triple.ensures
