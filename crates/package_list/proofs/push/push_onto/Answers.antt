use Rattle.std.proofs.Common.{map}
use Rattle.std.specs.Rc.{rc_value}
use Rattle.package_list.proofs.Pushes.{pushed_ascending, mapped_push}
use Rattle.package_list.proofs.push.push_onto.Goals as goal

pub returns-clause-ascending : goal.returns-clause-ascending
returns-clause-ascending c =
    pushed_ascending _ (map rc_value c.args.items.now.items) (rc_value c.args.new) c.requires
    ((rw (c.deref.ensures.value, c.package_of.ensures) at c.is_behind.ensures).0 c.if-not-is_behind.false)
    (mapped_push rc_value c.push.new.self.items c.args.items.now.items c.args.new (c.in_ok-push.ensures).items)
