use Rattle.std.proofs.Common.{◌≡◌, ◌++◌, take, string_bytes}
use Rattle.std.specs.List.{flat_map}
use Rattle.reply_text.specs.Snapshots.{snapshot_line}
use Rattle.reply_text.proofs.snapshots.put_each.Given as goal

abbrev pub invariant-loop-snapshot : goal.invariant-loop-snapshot
invariant-loop-snapshot l = string_bytes l.out ≡ string_bytes l.fn.out ++ flat_map snapshot_line (take l.snapshot-index l.snapshots)
