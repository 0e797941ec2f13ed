use Rattle.package_core.proofs.WholeLemmas.{one_package_text}
use Rattle.package_core.proofs.laws.texts_tell_packages_apart.Goals as goal

pub returns : goal.returns
returns c = one_package_text
