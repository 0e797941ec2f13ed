use Rattle.std.proofs.Common.{◌≡◌, ◌≤◌, ◌*◌, take}
use Rattle.reply_text.specs.Publications.{part_sum as sum_of}
use Rattle.reply_text.proofs.publications.part_sum.Given as goal

abbrev pub invariant-loop-part : goal.invariant-loop-part
invariant-loop-part l = (l.sum ≡ sum_of (take l.part-index l.parts)) × (l.sum ≤ l.part-index * 18446744073709551616)
