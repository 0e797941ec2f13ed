use Rattle.std.proofs.Common.{◌≡◌, Equal, sym, ap, ◌∙◌, subst}
use Rattle.std.specs.Rc.{rc_value}
use Rattle.std.specs.Ordering.{ordering_reverse}
use Rattle.std.proofs.lemmas.Cmp.{tied_itself}
use Rattle.package_core.specs.Card.{Card}
use Rattle.package_core.specs.Order.{package_cmp}
use Rattle.package_core.proofs.OrderLaws.{package_total}
use Rattle.package_intake.proofs.ListLemmas.{found_equal}
use Rattle.package_intake.proofs.known.stand.Goals as goal

pub returns-in_ok-clone-in-Some-clause-same : goal.returns-in_ok-clone-in-Some-clause-same
returns-in_ok-clone-in-Some-clause-same c =
    let made = c.args.made in
    let q : Card = rc_value c.in-Some.known.now in
    let equal : package_cmp made q ≡ Equal = package_total.antisymm made q ∙ ap ordering_reverse (found_equal package_total c.args.known.now made q (sym c.in-Some.ensures)) in
    subst (λ (x : Card). package_cmp made x ≡ Equal) (sym (c.new.ensures ∙ c.in_ok-clone-in-Some.ensures.cases)) equal

pub returns-in_ok-share-in-None-clause-same : goal.returns-in_ok-share-in-None-clause-same
returns-in_ok-share-in-None-clause-same c = subst (λ (x : Card). package_cmp c.args.made x ≡ Equal) (sym (c.new-in-None.ensures ∙ c.in_ok-share-in-None.ensures)) (tied_itself package_total c.args.made)
