-- The order of seeds is total.
use Rattle.std.specs.Cmp.{IsTotalOrder}
use Rattle.std.proofs.lemmas.Cmp.{back_total, nat_list_cmp_total, on_total, then_total}
use Rattle.package_core.specs.declared.package.Package.{Package}
use Rattle.package_relations.proofs.OrderLemmas.{by_version_total}
use Rattle.depend_pull.specs.Seeds.{seed_cmp}

pub seed_total : IsTotalOrder seed_cmp
unfolding seed_cmp
seed_total = then_total (on_total (λ (p : Package). p.name) nat_list_cmp_total) (back_total by_version_total)
