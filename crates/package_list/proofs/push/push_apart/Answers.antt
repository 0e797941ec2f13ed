use Rattle.std.proofs.Common.{map, ap, ◌∙◌, ◌++◌, ◌∷◌, []}
use Rattle.std.specs.Rc.{rc_value}
use Rattle.package_list.proofs.Pushes.{pushed_ascending, mapped_push}
use Rattle.package_list.proofs.push.push_apart.Goals as goal

pub returns-clause-ascending : goal.returns-clause-ascending
returns-clause-ascending c =
    pushed_ascending _ (map rc_value c.args.items.now.items) c.args.new.now.value c.requires
    ((rw (c.deref.ensures.value, c.package_of.ensures) at c.may_follow.ensures).0 c.if-not-may_follow.false).0
    (mapped_push rc_value c.push.new.self.items c.args.items.now.items c.in_ok-copy.copy (c.in_ok-push.ensures).items ∙ ap (λ v. map rc_value c.args.items.now.items ++ v ∷ []) c.in_ok-copy.ensures)
