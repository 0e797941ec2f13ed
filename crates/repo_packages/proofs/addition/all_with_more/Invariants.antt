use Rattle.std.proofs.Common.{◌≡◌, map, take}
use Rattle.package_intake.specs.Fits.{with_more}
use Rattle.repo_packages.proofs.addition.all_with_more.Given as goal

abbrev pub invariant-loop-repo : goal.invariant-loop-repo
invariant-loop-repo l = l.made.items ≡ map (with_more l.name l.list) (take l.repo-index l.repos)
