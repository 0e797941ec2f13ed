use Rattle.std.proofs.Common.{◌≡◌, ◌+◌, map, take}
use Rattle.std.specs.Rc.{rc_value}
use Rattle.machine_state.specs.declared.limit.Limit.TheVariants.{Catalogue}
use Rattle.machine_state.specs.Limits.{limit_number}
use Rattle.machine_state.specs.State.{text_length}
use Rattle.package_intake.proofs.catalogue.is_too_long.Given as goal

abbrev pub invariant-loop-package : goal.invariant-loop-package
invariant-loop-package l = l.left + text_length (take l.package-index (map rc_value l.packages)) ≡ limit_number Catalogue
