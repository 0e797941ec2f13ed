use Rattle.deb_version.proofs.VersionBytes.{version_some, version_bytes}
use Rattle.deb_version.proofs.laws.version_bytes_are_few.Goals as goal

pub returns-clause-some : goal.returns-clause-some
returns-clause-some c = version_some

pub returns-clause-bytes : goal.returns-clause-bytes
returns-clause-bytes c = version_bytes
