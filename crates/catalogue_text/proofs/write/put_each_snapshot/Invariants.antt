use Rattle.std.proofs.Common.{◌≡◌, ◌++◌, take, string_bytes}
use Rattle.std.specs.List.{flat_map}
use Rattle.catalogue_lines.specs.Pieces.{joined}
use Rattle.catalogue_text.specs.Root.{snapshot_pieces}
use Rattle.catalogue_text.proofs.write.put_each_snapshot.Given as goal

abbrev pub invariant-loop-snapshot : goal.invariant-loop-snapshot
invariant-loop-snapshot l = string_bytes l.out ≡ string_bytes l.fn.out ++ joined (flat_map snapshot_pieces (take l.snapshot-index l.snapshots))
