use Rattle.std.proofs.Common.{◌≡◌, ◌++◌, take, string_bytes}
use Rattle.catalogue_lines.specs.Pieces.{joined}
use Rattle.catalogue_publications.specs.PublicationLines.{parts_pieces}
use Rattle.catalogue_publications.proofs.write_publications.put_parts.Given as goal

abbrev pub invariant-loop-part : goal.invariant-loop-part
invariant-loop-part l = string_bytes l.out ≡ string_bytes l.fn.out ++ joined (parts_pieces (take l.part-index l.parts))
