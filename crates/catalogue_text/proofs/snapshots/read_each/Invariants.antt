use Rattle.std.proofs.Common.{◌≡◌, [], length}
use Rattle.std.specs.List.{flat_map}
use Rattle.catalogue_lines.specs.Pieces.{Takes}
use Rattle.catalogue_text.specs.Root.{snapshot_pieces}
use Rattle.catalogue_lines.specs.Reading.{Each}
use Rattle.catalogue_text.specs.RootReading.{GoodSnapshot}
use Rattle.catalogue_text.proofs.snapshots.read_each.Given as goal

abbrev pub invariant-loop-read : goal.invariant-loop-read
invariant-loop-read l = record {
  counted : length l.snapshots.items ≡ l._read;
  good : Each (GoodSnapshot l.known.list) [] l.snapshots.items;
  takes : Takes l.fn.text (flat_map snapshot_pieces l.snapshots.items) l.rest;
}
