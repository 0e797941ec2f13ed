use Rattle.std.proofs.Common.{◌≡◌, ◌↔◌, ℕ, List, Some, take}
use Rattle.ap_host.specs.Table.{files_of}
use Rattle.ap_host.specs.Names.{IsOneOf}
use Rattle.ap_host.proofs.holders.holders_of.Given as goal

abbrev pub invariant-loop-e : goal.invariant-loop-e
invariant-loop-e l = (q : List ℕ) → IsOneOf q l.held.items ↔ (files_of (take l.e-index l.table) q ≡ Some l.bytes)
