use Rattle.std.proofs.Common.{◌↔◌, ℕ, List, IsSome, take}
use Rattle.ap_host.specs.Table.{files_of}
use Rattle.ap_host.specs.Names.{IsAscending, IsOneOf}
use Rattle.ap_host.proofs.names.names_of.Given as goal

abbrev pub invariant-loop-e : goal.invariant-loop-e
invariant-loop-e l = IsAscending l.names.items × ((q : List ℕ) → IsOneOf q l.names.items ↔ IsSome (files_of (take l.e-index l.entries) q))
