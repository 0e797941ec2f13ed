use Rattle.std.proofs.Common.{◌≡◌, ◌++◌, take, map, string_bytes}
use Rattle.catalogue_lines.specs.Pieces.{packed, joined}
use Rattle.catalogue_lines.proofs.write_packages.put_packages.Given as goal

abbrev pub invariant-loop-i : goal.invariant-loop-i
invariant-loop-i l = string_bytes l.out ≡ string_bytes l.fn.out ++ joined (map packed (take l.i l.known))
