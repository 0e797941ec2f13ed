use Rattle.std.proofs.Common.{◌≡◌, [], length}
use Rattle.std.specs.List.{flat_map}
use Rattle.catalogue_lines.specs.Pieces.{Takes}
use Rattle.catalogue_publications.specs.PublicationGrammar.{MayJoinPart}
use Rattle.catalogue_lines.specs.Reading.{Each}
use Rattle.catalogue_lines.proofs.KnownParts.{member_pieces}
use Rattle.catalogue_publications.proofs.generations.read_members.Given as goal

abbrev pub invariant-loop-read : goal.invariant-loop-read
invariant-loop-read l = record {
  counted : length l.list ≡ l._read;
  good : Each (MayJoinPart l.known.list l.architectures) [] l.list;
  takes : Takes l.fn.text (flat_map member_pieces l.list) l.rest;
}
