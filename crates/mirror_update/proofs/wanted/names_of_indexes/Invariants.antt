use Rattle.std.proofs.Common.{◌≡◌, take}
use Rattle.mirror_update.specs.Wanted.{AreShortNames, indexes_of}
use Rattle.mirror_update.proofs.wanted.names_of_indexes.Given as goal

abbrev pub invariant-loop-component : goal.invariant-loop-component
invariant-loop-component l = record {
  names : l.names.items ≡ indexes_of (take l.component-index l.components) l.archs;
  short : AreShortNames l.names.items;
}
