use Rattle.std.proofs.Common.{◌≡◌, ℕ, List, map, take}
use Rattle.std.specs.Rc.{rc_value}
use Rattle.package_intake.specs.Taking.{known_of}
use Rattle.package_intake.specs.Inside.{file_of}
use Rattle.package_intake.proofs.known.known_files.Given as goal

abbrev pub invariant-loop-package : goal.invariant-loop-package
invariant-loop-package l = (q : List ℕ) → file_of l.files q ≡ known_of (take l.package-index (map rc_value l.package-items)) q
