use Rattle.std.proofs.Common.{◌≡◌, drop}
use Rattle.std.specs.Option.{option_copied}
use Rattle.depend_pull.specs.Places.{greatest_behind, greatest_of, satisfiers}
use Rattle.depend_pull.proofs.satisfier.greatest_satisfier.Given as goal

abbrev pub invariant-loop-offer : goal.invariant-loop-offer
invariant-loop-offer l = greatest_behind (option_copied l.best) (satisfiers (drop l.offer-index l.source) l.arch l.alternative) ≡ greatest_of (satisfiers l.source l.arch l.alternative)
