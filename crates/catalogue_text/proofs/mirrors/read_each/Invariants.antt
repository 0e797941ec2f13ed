use Rattle.std.proofs.Common.{◌≡◌, [], length}
use Rattle.std.specs.List.{flat_map}
use Rattle.catalogue_lines.specs.Pieces.{Takes}
use Rattle.catalogue_text.specs.Root.{mirror_pieces}
use Rattle.catalogue_lines.specs.Reading.{Each}
use Rattle.catalogue_text.specs.MirrorReading.{GoodMirror}
use Rattle.catalogue_text.proofs.mirrors.read_each.Given as goal

abbrev pub invariant-loop-read : goal.invariant-loop-read
invariant-loop-read l = record {
  counted : length l.mirrors.items ≡ l._read;
  good : Each (GoodMirror l.known.list) [] l.mirrors.items;
  takes : Takes l.fn.text (flat_map mirror_pieces l.mirrors.items) l.rest;
}
