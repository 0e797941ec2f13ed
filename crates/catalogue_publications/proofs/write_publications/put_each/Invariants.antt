use Rattle.std.proofs.Common.{◌≡◌, ◌++◌, take, string_bytes}
use Rattle.std.specs.List.{flat_map}
use Rattle.catalogue_lines.specs.Pieces.{joined}
use Rattle.catalogue_publications.specs.PublicationLines.{publication_pieces}
use Rattle.catalogue_publications.proofs.write_publications.put_each.Given as goal

abbrev pub invariant-loop-publication : goal.invariant-loop-publication
invariant-loop-publication l = string_bytes l.out ≡ string_bytes l.fn.out ++ joined (flat_map publication_pieces (take l.publication-index l.publications))
