use Rattle.machine_state.specs.Publications.{components_of}
use Rattle.catalogue_lines.proofs.ReadLemmas.{if_before}
use Rattle.catalogue_publications.proofs.PublicationRead.{at_before, at_none}
use Rattle.catalogue_publications.proofs.generations.read_previous.Goals as goal

pub returns-in-Err-clause-stops : goal.returns-in-Err-clause-stops
returns-in-Err-clause-stops c = if_before _ _ (λ left s apart. at_before c.args.known.now.list c.args.architectures.now (components_of c.args.sources.now) c.args.text.now c.args.later left c.if-later.true (s apart)) c.in-Err.stop c.in-Err.ensures.stops

pub returns-in-None-clause-stops : goal.returns-in-None-clause-stops
returns-in-None-clause-stops c = λ apart. at_none c.args.known.now.list c.args.architectures.now (components_of c.args.sources.now) c.args.text.now c.args.later c.if-later.false c.in-None.ensures
