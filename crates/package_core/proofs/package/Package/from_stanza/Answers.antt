use Rattle.package_core.proofs.PackageLemmas.{made_is}
use Rattle.package_core.proofs.package.Package.from_stanza.Goals as goal

pub returns-clause-package : goal.returns-clause-package
returns-clause-package c = let said = c.read_package.ensures in made_is c.args.stanza.now _ said.value said.good said.one said.stanza
