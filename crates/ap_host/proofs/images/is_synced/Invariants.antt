use Rattle.std.proofs.Common.{◌≡◌, take}
use Rattle.ap_host.specs.declared.host.Op.TheVariants.{Sync}
use Rattle.ap_host.specs.Changes.{EachOp}
use Rattle.ap_host.proofs.images.is_synced.Given as goal

abbrev pub invariant-loop-op : goal.invariant-loop-op
invariant-loop-op l = EachOp (λ op. op ≡ Sync l.path → ⊥) (take l.op-index l.ops)
