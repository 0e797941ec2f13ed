use Rattle.deb_version.proofs.Spelled.{text_spelled, first_colon, last_hyphen}
use Rattle.deb_version.proofs.laws.version_is_spelled_by_its_parts.Goals as goal

pub returns-clause-joined : goal.returns-clause-joined
returns-clause-joined c = text_spelled

pub returns-clause-first_colon : goal.returns-clause-first_colon
returns-clause-first_colon c = first_colon

pub returns-clause-last_hyphen : goal.returns-clause-last_hyphen
returns-clause-last_hyphen c = last_hyphen
