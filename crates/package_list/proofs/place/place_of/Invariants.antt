use Rattle.std.proofs.Common.{◌≡◌, ℕ, ◌<◌, ◌≤◌, ◌-◌, length, get_or, map, Less}
use Rattle.std.specs.Rc.{rc_value}
use Rattle.package_core.specs.Order.{package_cmp}
use Rattle.package_core.specs.declared.package.Package.{Package}
use Rattle.package_list.proofs.place.place_of.Given as goal

abbrev pub invariant-loop-low : goal.invariant-loop-low
invariant-loop-low l = record {
  inside : (l.low ≤ l.high) × (l.high ≤ length l.items);
  before : (k : ℕ) (d : Package) → k < l.low → package_cmp (get_or (map rc_value l.items) k d) l.wanted ≡ Less;
  behind : (k : ℕ) (d : Package) → l.high ≤ k → k < length l.items → package_cmp (get_or (map rc_value l.items) k d) l.wanted ≡ Less → ⊥;
}

abbrev pub decreases-loop-low : goal.decreases-loop-low
decreases-loop-low l = l.high - l.low
