-- The order by name and then architecture.
use Rattle.std.specs.declared.cmp.Ordering.{Ordering}
use Rattle.std.specs.Ordering.{ordering_then}
use Rattle.package_core.specs.Card.{Card}
use Rattle.package_core.specs.Order.{text_cmp}

unfoldable pub key_cmp : Card → Card → Ordering
key_cmp a b = ordering_then (text_cmp a.name b.name) (text_cmp a.arch b.arch)
