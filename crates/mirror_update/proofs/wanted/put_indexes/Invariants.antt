use Rattle.std.proofs.Common.{◌≡◌, ◌++◌, map, take}
use Rattle.mirror_update.specs.Wanted.{AreShortNames, index_name}
use Rattle.mirror_update.proofs.wanted.put_indexes.Given as goal

abbrev pub invariant-loop-arch : goal.invariant-loop-arch
invariant-loop-arch l = record {
  names : l.names.items ≡ l.fn.names.items ++ map (index_name l.component) (take l.arch-index l.archs);
  short : AreShortNames l.fn.names.items → AreShortNames l.names.items;
}
