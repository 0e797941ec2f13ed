-- The order by which the greatest of some packages is told, whatever their names.
use Rattle.std.specs.declared.cmp.Ordering.{Ordering}
use Rattle.std.specs.Ordering.{ordering_then}
use Rattle.deb_version.specs.VersionOrder.{version_cmp}
use Rattle.package_core.specs.Card.{Card}
use Rattle.package_core.specs.Order.{package_cmp}

-- the order of versions (Debian Policy 5.6.12), then the order of packages
unfoldable pub by_version_cmp : Card → Card → Ordering
by_version_cmp a b = ordering_then (version_cmp a.version b.version) (package_cmp a b)
