use Rattle.std.proofs.Common.{◌≡◌, [], length}
use Rattle.std.specs.List.{flat_map}
use Rattle.catalogue_lines.specs.Pieces.{Takes}
use Rattle.catalogue_publications.specs.PublicationLines.{publication_pieces}
use Rattle.catalogue_publications.specs.PublicationGrammar.{has_source_in}
use Rattle.catalogue_publications.specs.PublicationReading.{GoodPublication}
use Rattle.catalogue_lines.specs.Reading.{Each}
use Rattle.catalogue_publications.proofs.publications.read_each.Given as goal

abbrev pub invariant-loop-read : goal.invariant-loop-read
invariant-loop-read l = record {
  counted : length l.publications.items ≡ l._read;
  good : Each (GoodPublication l.known.list (has_source_in l.repos l.snapshots)) [] l.publications.items;
  takes : Takes l.fn.text (flat_map publication_pieces l.publications.items) l.rest;
}
