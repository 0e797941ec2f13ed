use Rattle.std.proofs.Common.{◌≡◌, ◌++◌, take, string_bytes}
use Rattle.std.specs.List.{flat_map}
use Rattle.catalogue_lines.specs.Pieces.{joined}
use Rattle.catalogue_text.specs.Root.{mirror_pieces}
use Rattle.catalogue_text.proofs.write_mirrors.put_each_mirror.Given as goal

abbrev pub invariant-loop-mirror : goal.invariant-loop-mirror
invariant-loop-mirror l = string_bytes l.out ≡ string_bytes l.fn.out ++ joined (flat_map mirror_pieces (take l.mirror-index l.mirrors))
