use Rattle.catalogue_lines.proofs.ReadLemmas.{none_known}
use Rattle.catalogue_lines.proofs.sets.named_member.Goals as goal

pub returns-in-None : goal.returns-in-None
returns-in-None c = none_known c.args.known.now.list c.args.text.now c.in-Some.id.now c.in-Some.rest.now c.place_of.result c.place_of.ensures c.in-None.is c.in-Some.ensures
