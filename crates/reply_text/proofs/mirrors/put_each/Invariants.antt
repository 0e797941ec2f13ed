use Rattle.std.proofs.Common.{◌≡◌, ◌++◌, take, string_bytes}
use Rattle.std.specs.List.{flat_map}
use Rattle.reply_text.specs.Mirrors.{mirror_line}
use Rattle.reply_text.proofs.mirrors.put_each.Given as goal

abbrev pub invariant-loop-mirror : goal.invariant-loop-mirror
invariant-loop-mirror l = string_bytes l.out ≡ string_bytes l.fn.out ++ flat_map mirror_line (take l.mirror-index l.mirrors)
