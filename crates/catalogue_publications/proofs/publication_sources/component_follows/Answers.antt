use Rattle.catalogue_publications.specs.PublicationReading.{component_of}
use Rattle.catalogue_lines.proofs.NameLemmas.{follows_last}
use Rattle.catalogue_publications.proofs.publication_sources.component_follows.Goals as goal

pub returns-in-Some : goal.returns-in-Some
returns-in-Some c = follows_last component_of _ _ c.args.done.now c.in-Some.field-0-1.now c.in-Some.before.now c.args.component.now c.requires c.in-Some.ensures.cases.0 c.is_lt.ensures c.order.ensures
