use Rattle.std.proofs.Common.{◌≡◌, take, All}
use Rattle.machine_state.specs.Publications.{components_of}
use Rattle.catalogue_lines.specs.Pieces.{Takes}
use Rattle.catalogue_publications.specs.PublicationLines.{parts_pieces}
use Rattle.catalogue_publications.specs.PublicationReading.{GoodPartSet}
use Rattle.catalogue_publications.proofs.generations.read_parts.Given as goal

abbrev pub invariant-loop-source : goal.invariant-loop-source
invariant-loop-source l = record {
  named : components_of l.parts.items ≡ components_of (take l.source-index l.sources);
  good : All (λ part. GoodPartSet l.known.list l.architectures part.1) l.parts.items;
  takes : Takes l.fn.text (parts_pieces l.parts.items) l.rest;
}
