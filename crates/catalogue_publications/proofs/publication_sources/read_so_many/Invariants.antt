use Rattle.std.proofs.Common.{◌≡◌, [], length}
use Rattle.std.specs.List.{flat_map}
use Rattle.catalogue_lines.specs.Pieces.{Takes}
use Rattle.catalogue_publications.specs.PublicationLines.{source_line}
use Rattle.catalogue_publications.specs.PublicationGrammar.{IsNextSource}
use Rattle.catalogue_publications.specs.PublicationReading.{IsThere}
use Rattle.catalogue_lines.specs.Reading.{Each}
use Rattle.catalogue_lines.proofs.Parts.{line_of}
use Rattle.catalogue_publications.proofs.publication_sources.read_so_many.Given as goal

abbrev pub invariant-loop-read : goal.invariant-loop-read
invariant-loop-read l = record {
  counted : length l.sources.items ≡ l._read;
  good : Each (IsNextSource (IsThere l.repos l.snapshots l.kind)) [] l.sources.items;
  takes : Takes l.fn.text (flat_map (line_of source_line) l.sources.items) l.rest;
}
