use Rattle.package_core.proofs.WholeLemmas.{completed_is}
use Rattle.package_core.proofs.package.Package.complete.Goals as goal

pub returns-clause-whole : goal.returns-clause-whole
returns-clause-whole c = λ h. completed_is c.args.self.now c.args.found.now _ h c.as_said-self.ensures.is c.as_said-self.ensures.sizes
