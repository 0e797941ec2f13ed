use Rattle.std.proofs.Common.{◌≡◌, ◌++◌, take, string_bytes}
use Rattle.std.specs.List.{flat_map}
use Rattle.catalogue_lines.specs.Pieces.{joined}
use Rattle.catalogue_text.specs.Root.{repo_pieces}
use Rattle.catalogue_text.proofs.write.put_each.Given as goal

abbrev pub invariant-loop-repo : goal.invariant-loop-repo
invariant-loop-repo l = string_bytes l.out ≡ string_bytes l.fn.out ++ joined (flat_map repo_pieces (take l.repo-index l.repos))
