use Rattle.std.proofs.Common.{sym, ap, ◌∙◌, map}
use Rattle.std.specs.Rc.{rc_value}
use Rattle.std.specs.List.{insert}
use Rattle.package_core.proofs.OrderLaws.{package_total}
use Rattle.package_list.proofs.SortedLemmas.{put_has, put_at, map-insert}
use Rattle.package_list.proofs.list.insert_into.Goals as goal

pub returns-then-is_at-clause-ok : goal.returns-then-is_at-clause-ok
returns-then-is_at-clause-ok c = sym (put_has package_total _ _ c.requires (cc))

pub returns-clause-ok : goal.returns-clause-ok
returns-clause-ok c =
    ap (map rc_value) c.in_ok-insert.ensures.items ∙ map-insert rc_value _ _ _ ∙ ap (λ v. insert (map rc_value c.args.items.now.items) c.place_of-place.result v) c.in_ok-new.ensures
    ∙ sym (put_at package_total (map rc_value c.args.items.now.items) c.place_of-place.result c.args.new (rw c.deref.ensures.value at c.place_of-place.ensures.before) (rw c.deref.ensures.value at c.place_of-place.ensures.behind) (cc))
