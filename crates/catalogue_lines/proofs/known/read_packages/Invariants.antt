use Rattle.std.proofs.Common.{◌≡◌, [], length}
use Rattle.std.specs.List.{flat_map}
use Rattle.package_core.specs.Order.{package_cmp}
use Rattle.package_list.specs.Sorted.{AllLess}
use Rattle.catalogue_lines.specs.Pieces.{Takes}
use Rattle.catalogue_lines.specs.Reading.{Each, IsIndexed}
use Rattle.catalogue_lines.proofs.KnownParts.{package_pieces}
use Rattle.catalogue_lines.proofs.known.read_packages.Given as goal

abbrev pub invariant-loop-read : goal.invariant-loop-read
invariant-loop-read l = record {
  counted : length l.known.list ≡ l._read;
  good : Each (AllLess package_cmp) [] l.known.list;
  takes : Takes l.fn.text (flat_map package_pieces l.known.list) l.rest;
  indexed : IsIndexed l.known;
}
