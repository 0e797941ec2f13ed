use Rattle.catalogue_publications.proofs.PublicationRead.{follows_place}
use Rattle.catalogue_publications.proofs.publications.place_follows.Goals as goal

pub returns-in-Some : goal.returns-in-Some
returns-in-Some c = follows_place _ _ c.args.done.now c.in-Some.field-0-1.now c.in-Some.before.now c.args.place.now c.requires c.in-Some.ensures.cases.0 c.is_lt.ensures c.place_order.ensures
