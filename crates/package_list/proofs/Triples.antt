-- The order by triples: it is the order of packages where the triples differ, and a member of p's triple decides p's place.
use Rattle.std.proofs.Common.{◌≡◌, true, false, refl, sym, ◌∙◌, Ordering, Less, Equal, Greater}
use Rattle.std.specs.Ordering.{is_eq, ordering_then}
use Rattle.package_core.specs.declared.package.Package.{Package}
use Rattle.package_core.specs.Order.{package_cmp, triple_cmp, body_cmp, same_triple}
use Rattle.package_core.proofs.OrderLaws.{same_triple-is}
use Rattle.package_list.proofs.Beside.{tied, triple_begins}

pub one_triple : (a b : Package) → same_triple a b ≡ true → Equal ≡ triple_cmp a b
one_triple a b h = sym (tied (triple_cmp a b) (sym (same_triple-is a b) ∙ h))

pub decided : (t s : Ordering) → is_eq t ≡ false → ordering_then t s ≡ t
decided Less s h = refl
decided Equal s h = cc
decided Greater s h = refl

pub other_triple : (a b : Package) → same_triple a b ≡ false → package_cmp a b ≡ triple_cmp a b
other_triple a b h = triple_begins a b ∙ decided (triple_cmp a b) (body_cmp a b) (sym (same_triple-is a b) ∙ h)
