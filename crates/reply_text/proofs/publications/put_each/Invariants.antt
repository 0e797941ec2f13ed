use Rattle.std.proofs.Common.{◌≡◌, ◌++◌, take, string_bytes}
use Rattle.std.specs.List.{flat_map}
use Rattle.reply_text.specs.Publications.{publication_line}
use Rattle.reply_text.proofs.publications.put_each.Given as goal

abbrev pub invariant-loop-publication : goal.invariant-loop-publication
invariant-loop-publication l = string_bytes l.out ≡ string_bytes l.fn.out ++ flat_map publication_line (take l.publication-index l.publications)
