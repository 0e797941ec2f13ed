use Rattle.std.proofs.Common.{◌≡◌, map}
use Rattle.index_text.specs.Index.{AreEntries, ArePackages, entry_of}
use Rattle.index_text.proofs.read.read_entries.Given as goal

abbrev pub invariant-loop-line : goal.invariant-loop-line
invariant-loop-line l = record { are_entries : AreEntries l.yielded; described : l.entries.items ≡ map entry_of l.yielded; packages : ArePackages l.entries.items }
