use Rattle.std.proofs.Common.{refl}
use Rattle.package_core.proofs.SizeLemmas.{size_read, size_refused}
use Rattle.package_core.proofs.said.read_size.Goals as goal

pub returns-in-Some-clause-read : goal.returns-in-Some-clause-read
returns-in-Some-clause-read c = size_read c.args.text.now c.in-Some.number c.in-Some.ensures.found c.in-Some.ensures.small

pub returns-in-None-clause-read : goal.returns-in-None-clause-read
returns-in-None-clause-read c = (refl, size_refused c.args.text.now (c.in-None.ensures.none refl))
