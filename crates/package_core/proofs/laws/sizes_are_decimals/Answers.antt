use Rattle.package_core.proofs.SizeLemmas.{size_written, size_only}
use Rattle.package_core.proofs.laws.sizes_are_decimals.Goals as goal

pub returns-clause-written : goal.returns-clause-written
returns-clause-written c = size_written

pub returns-clause-only : goal.returns-clause-only
returns-clause-only c = size_only
