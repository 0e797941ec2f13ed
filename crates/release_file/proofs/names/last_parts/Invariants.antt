use Rattle.std.proofs.Common.{◌≡◌, map, take}
use Rattle.package_core.specs.Fields.{last_segment}
use Rattle.release_file.proofs.names.last_parts.Given as goal

abbrev pub invariant-loop-word : goal.invariant-loop-word
invariant-loop-word l = l.parts.items ≡ map last_segment (take l.word-index l.words)
