use Rattle.std.proofs.Common.{sym, ap, ◌∙◌, map}
use Rattle.std.specs.Ordering.{is_eq}
use Rattle.std.specs.Rc.{rc_value}
use Rattle.package_core.proofs.OrderLaws.{package_total}
use Rattle.package_list.proofs.SortedLemmas.{has_at, has_past}
use Rattle.package_list.proofs.place.is_at.Goals as goal

pub returns-in-Some : goal.returns-in-Some
returns-in-Some c = c.is_eq.ensures ∙ ap is_eq c.compare_packages.ensures ∙ sym (has_at package_total (map rc_value c.args.items.now) c.args.place c.in-Some.member.now c.args.wanted.now _ c.requires.ascending c.requires.before c.requires.behind c.in-Some.ensures)

pub returns-in-None : goal.returns-in-None
returns-in-None c = sym (has_past package_total (map rc_value c.args.items.now) c.args.place c.args.wanted.now c.requires.before c.in-None.ensures)
