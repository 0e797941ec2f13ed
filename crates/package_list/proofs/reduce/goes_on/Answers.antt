use Rattle.std.proofs.Common.{sym, ap, ◌∙◌, map}
use Rattle.std.specs.Ordering.{is_eq}
use Rattle.std.specs.Rc.{rc_value}
use Rattle.package_list.specs.Order.{key_cmp}
use Rattle.package_list.specs.Sorted.{first_is}
use Rattle.package_list.proofs.Keys.{goes_on_is}
use Rattle.package_list.proofs.reduce.goes_on.Goals as goal

pub returns-in-Some : goal.returns-in-Some
returns-in-Some c =
    c.is_eq.ensures ∙ ap is_eq (c.compare_keys.ensures ∙ ap (λ q. key_cmp q c.args.one.now) c.package_of.ensures)
    ∙ sym (goes_on_is c.args.one.now (map rc_value c.args.following.now) c.requires ∙ ap (first_is (λ q. is_eq (key_cmp q c.args.one.now))) (ap (map rc_value) c.in-Some.ensures))

pub returns-in-None : goal.returns-in-None
returns-in-None c = sym (goes_on_is c.args.one.now (map rc_value c.args.following.now) c.requires ∙ ap (first_is (λ q. is_eq (key_cmp q c.args.one.now))) (ap (map rc_value) c.in-None.ensures))
