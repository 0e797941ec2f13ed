-- The order by version and then by the order of packages is total, and equal in it are equal packages.
use Rattle.std.proofs.Common.{◌≡◌, refl, ap, sym, ◌∙◌, Less, Equal, Greater}
use Rattle.std.specs.declared.cmp.Ordering.{Ordering}
use Rattle.std.specs.Ordering.{ordering_then}
use Rattle.std.specs.Cmp.{IsTotalOrder}
use Rattle.std.proofs.lemmas.Cmp.{on_total, then_total, tied_itself}
use Rattle.deb_version.specs.VersionOrder.{version_cmp}
use Rattle.deb_version.proofs.OrderLaws.{version_total}
use Rattle.package_core.specs.declared.package.Package.{Package}
use Rattle.package_core.specs.Order.{package_cmp}
use Rattle.package_core.proofs.OrderLaws.{package_total, equal_packages}
use Rattle.package_relations.specs.Order.{by_version_cmp}

pub by_version_total : IsTotalOrder by_version_cmp
unfolding by_version_cmp
by_version_total = then_total (on_total (λ (p : Package). p.version) version_total) package_total

behind_equal : (a b : Ordering) → ordering_then a b ≡ Equal → b ≡ Equal
behind_equal Less b h = cc
behind_equal Equal b h = h
behind_equal Greater b h = cc

pub equal_packages_by_version : (a b : Package) → by_version_cmp a b ≡ Equal → package_cmp a b ≡ Equal
unfolding by_version_cmp
equal_packages_by_version a b h = behind_equal (version_cmp a.version b.version) (package_cmp a b) h

one_version : (a b : Package) → package_cmp a b ≡ Equal → version_cmp a.version b.version ≡ Equal
one_version a b h = ap (λ v. version_cmp v b.version) (equal_packages a b h).triple.version ∙ tied_itself version_total b.version

pub equal_by_version : (a b : Package) → package_cmp a b ≡ Equal → by_version_cmp a b ≡ Equal
unfolding by_version_cmp
equal_by_version a b h = ap (λ o. ordering_then o (package_cmp a b)) (one_version a b h) ∙ h
