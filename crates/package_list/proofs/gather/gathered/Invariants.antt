use Rattle.std.proofs.Common.{◌≡◌, [], map, take, drop}
use Rattle.std.specs.Rc.{rc_value}
use Rattle.package_list.specs.Lists.{joined}
use Rattle.package_list.specs.Answers.{first_refusal}
use Rattle.package_list.proofs.gather.gathered.Given as goal

abbrev pub invariant-loop-package : goal.invariant-loop-package
invariant-loop-package l =
    (l.members.keys ≡ joined (take l.package-index (map rc_value l.packages)))
    × (first_refusal (take l.package-index (map rc_value l.packages)) (drop l.package-index (map rc_value l.packages)) ≡ first_refusal [] (map rc_value l.packages))
