use Rattle.std.proofs.Common.{◌∙◌}
use Rattle.package_core.specs.Order.{package_cmp}
use Rattle.package_list.proofs.Triples.{one_triple, other_triple}
use Rattle.package_list.proofs.by_triple.ByTripleOrd.cmp.Goals as goal

pub returns-then-has_same_triple : goal.returns-then-has_same_triple
returns-then-has_same_triple c = one_triple c.args.self.now c.args.other.now (cc)

pub returns-else-has_same_triple : goal.returns-else-has_same_triple
returns-else-has_same_triple c =
    c.compare_packages.ensures ∙ (λ i. package_cmp (c.package-one.ensures i) (c.package-two.ensures i)) ∙ other_triple c.args.self.now c.args.other.now (cc)
