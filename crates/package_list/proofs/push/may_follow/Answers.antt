use Rattle.std.proofs.Common.{map}
use Rattle.std.specs.Rc.{rc_value}
use Rattle.package_list.proofs.Pushes.{may_follow_is}
use Rattle.package_list.proofs.push.may_follow.Goals as goal

pub returns-then-is_behind : goal.returns-then-is_behind
returns-then-is_behind c = may_follow_is _ _ (map rc_value c.args.items.now) c.args.new.now c.requires c.if-is_behind.true c.is_behind.ensures c.last_has_triple.ensures
