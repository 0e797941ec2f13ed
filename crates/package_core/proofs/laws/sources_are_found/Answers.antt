use Rattle.package_core.proofs.SourceReading.{named_is_found, found_is_named}
use Rattle.package_core.proofs.laws.sources_are_found.Goals as goal

pub returns : goal.returns
returns c = record { named_source = named_is_found; found_source = found_is_named }
