use Rattle.std.proofs.Common.{take}
use Rattle.ap_host.specs.Names.{IsOneOf}
use Rattle.ap_host.proofs.holders.is_among.Given as goal

abbrev pub invariant-loop-h : goal.invariant-loop-h
invariant-loop-h l = IsOneOf l.path (take l.h-index l.held) → ⊥
