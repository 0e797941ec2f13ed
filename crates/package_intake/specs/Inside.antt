-- What the code looks up and goes through on its way. No clause of a public function speaks of it.
use Rattle.std.specs.Prelude.{◌≡◌, ℕ, List, [], Option, Some, None, bytes_eq, unwrap_or, option_map, if◌then◌else◌}
use Rattle.std.specs.Option.{option_or}
use Rattle.std.specs.Ordering.{is_eq, nat_cmp}
use Rattle.ap_host.specs.Disk.{Path}
use Rattle.digest_set.specs.declared.facts.Digests.{Digests}
use Rattle.digest_set.specs.Difference.{difference}
use Rattle.package_core.specs.Card.{Card, completed}
use Rattle.package_core.specs.Order.{package_cmp}
use Rattle.package_core.specs.Whole.{IsDigest, IsWhole}
use Rattle.std.specs.BTreeMap.{BTreeMap, get}
use Rattle.std.specs.Cmp.Lexicographic.{slice_cmp}
use Rattle.std.specs.declared.rc.Rc.{Rc}
use Rattle.std.specs.Rc.{rc_value}

-- with one more package behind the others
abbrev pub path_in : Option Path → Card → Path → Card → Option Path
path_in before one path p = option_or before (if is_eq (package_cmp one p) then Some path else None)

-- with one more package behind the others
abbrev pub file_in : Option Card → Card → List ℕ → Option Card
file_in before one sha256 = option_or before (if bytes_eq one.said.sha256 sha256 then Some one else None)

-- the package with digests of its file, of which none differs from what is stated
pub record IsCompleted (p q : Card) : Type 0 where
  pub found : Digests
  pub sha1 : IsDigest 20 found.sha1
  pub md5 : IsDigest 16 found.md5
  pub agrees : difference p.said found ≡ None
  pub is : q ≡ completed p found

-- P, where a package that serves for its file is whole
abbrev pub IfWhole : Option Card → Type 0 → Type 0
IfWhole None P = P
IfWhole (Some q) P = IsWhole q → P

module _ {Y : Type 0} where
  -- the package that is noted for a SHA-256
  abbrev pub file_of : BTreeMap (List ℕ) (Rc Card Y) → List ℕ → Option Card
  file_of files sha256 = option_map rc_value (get (slice_cmp nat_cmp) files sha256)

-- the path that is noted for a package
abbrev pub path_at : BTreeMap Card Path → Card → Path
path_at paths p = unwrap_or (get package_cmp paths p) []
