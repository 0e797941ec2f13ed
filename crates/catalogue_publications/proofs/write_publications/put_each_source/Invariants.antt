use Rattle.std.proofs.Common.{◌≡◌, ◌++◌, take, map, string_bytes}
use Rattle.catalogue_lines.specs.Pieces.{alone, joined}
use Rattle.catalogue_publications.specs.PublicationLines.{source_line}
use Rattle.catalogue_publications.proofs.write_publications.put_each_source.Given as goal

abbrev pub invariant-loop-source : goal.invariant-loop-source
invariant-loop-source l = string_bytes l.out ≡ string_bytes l.fn.out ++ joined (map (λ s. alone (source_line s)) (take l.source-index l.sources))
