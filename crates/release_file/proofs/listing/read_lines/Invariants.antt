use Rattle.std.proofs.Common.{take, filter}
use Rattle.release_file.specs.Words.{has_word}
use Rattle.release_file.specs.Release.{AreListings}
use Rattle.release_file.proofs.listing.read_lines.Given as goal

abbrev pub invariant-loop-line : goal.invariant-loop-line
invariant-loop-line l = AreListings (filter has_word (take l.line-index l.lines)) l.files.items
