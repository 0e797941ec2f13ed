use Rattle.std.proofs.Common.{◌≢◌, ◌↔◌, ℕ, List, take}
use Rattle.ap_host.specs.Names.{IsOneOf}
use Rattle.ap_host.proofs.holders.without.Given as goal

abbrev pub invariant-loop-h : goal.invariant-loop-h
invariant-loop-h l = (q : List ℕ) → IsOneOf q l.others.items ↔ ((q ≢ l.path) × IsOneOf q (take l.h-index l.held))
