use Rattle.std.proofs.Common.{◌≡◌, ◌++◌, map, take, string_bytes}
use Rattle.std.specs.List.{flat_map}
use Rattle.std.specs.Rc.{rc_value}
use Rattle.reply_text.specs.DryRuns.{coming_line}
use Rattle.reply_text.proofs.dry_runs.put_all_coming.Given as goal

abbrev pub invariant-loop-package_of : goal.invariant-loop-package_of
invariant-loop-package_of l = string_bytes l.out ≡ string_bytes l.fn.out ++ flat_map coming_line (map rc_value (take l.package_of-index l.packages))
