use Rattle.catalogue_lines.proofs.KnownLemmas.{room_none, room_some}
use Rattle.catalogue_lines.proofs.known.less.Goals as goal

pub returns-in-None : goal.returns-in-None
returns-in-None c = λ before new h u. room_none c.args.room c.in-None.is before new h

pub returns-in-Some : goal.returns-in-Some
returns-in-Some c = room_some c.args.room c.checked_sub.result c.in-Some.room c.args.used c.in-Some.is c.checked_sub.ensures
