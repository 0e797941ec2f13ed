use Rattle.std.proofs.Common.{◌≡◌, [], length}
use Rattle.std.specs.List.{flat_map}
use Rattle.catalogue_lines.specs.Pieces.{Takes}
use Rattle.catalogue_text.specs.Root.{repo_pieces}
use Rattle.catalogue_lines.specs.Reading.{Each}
use Rattle.catalogue_text.specs.RootReading.{GoodRepo}
use Rattle.catalogue_text.proofs.repos.read_each.Given as goal

abbrev pub invariant-loop-read : goal.invariant-loop-read
invariant-loop-read l = record {
  counted : length l.repos.items ≡ l._read;
  good : Each (GoodRepo l.known.list) [] l.repos.items;
  takes : Takes l.fn.text (flat_map repo_pieces l.repos.items) l.rest;
}
