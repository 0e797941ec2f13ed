-- For which architectures a package is (Debian Policy 5.6.8).
use Rattle.std.specs.Prelude.{ℕ, Bool, ◌||◌, bytes_eq, List, codes}
use Rattle.package_core.specs.Card.{Card}

-- its architecture is this one or `all`
unfoldable pub is_for : Card → List ℕ → Bool
is_for p arch = bytes_eq p.arch arch || bytes_eq p.arch (codes "all")
