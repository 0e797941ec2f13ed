use Rattle.std.proofs.Common.{subst}
use Rattle.package_core.specs.Order.{package_cmp}
use Rattle.package_list.specs.Sorted.{AllLess}
use Rattle.catalogue_lines.proofs.ValueLemmas.{at_some}
use Rattle.catalogue_lines.proofs.ReadLemmas.{not_pushed}
use Rattle.catalogue_lines.proofs.known.next_package.Goals as goal

pub returns-else-branch : goal.returns-else-branch
returns-else-branch c = λ p behind b less.
    let read = at_some _ _ _ _ c.in_ok-package.ensures c.in-Some.is in
    not_pushed _ _ _ c.if-branch.false c.in_ok-push.ensures.answer (subst (AllLess package_cmp c.args.known.now.list) (read.2 p behind b) less)
