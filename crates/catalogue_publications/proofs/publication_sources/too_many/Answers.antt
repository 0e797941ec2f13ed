use Rattle.std.proofs.Common.{arith}
use Rattle.catalogue_publications.specs.PublicationReading.{IsThere}
use Rattle.catalogue_lines.proofs.ReadLemmas.{if_before}
use Rattle.catalogue_publications.proofs.PublicationRead.{stops_more_sources}
use Rattle.catalogue_publications.proofs.publication_sources.too_many.Goals as goal

pub returns-in-Err : goal.returns-in-Err
returns-in-Err c = if_before _ _ (λ left s n le. stops_more_sources (IsThere c.args.repos.now c.args.snapshots.now c.args.kind) 18446744073709551615 n c.args.text.now left (omega arith) s) c.in-Err.stop c.in-Err.ensures.stops
