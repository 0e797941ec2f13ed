use Rattle.catalogue_lines.proofs.ReadLemmas.{if_ok, if_stop}
use Rattle.catalogue_publications.proofs.PublicationRead.{at_part, past_part, part_read}
use Rattle.catalogue_publications.proofs.generations.read_part.Goals as goal

pub returns-in_default-clause-stops : goal.returns-in_default-clause-stops
returns-in_default-clause-stops c = λ apart. at_part c.args.known.now.list c.args.architectures.now c.args.text.now c.number-most.result c.number-most.ensures c.in_default.ensures

pub returns-clause-read : goal.returns-clause-read
returns-clause-read c =
    let n = c.in-Some.ensures in
    if_ok _ _ (λ p r. part_read c.args.known.now.list c.args.architectures.now c.args.text.now c.in-Some.rest.now c.in-Some.count c.number-most.result c.number-most.ensures n.0 n.1 p.0 p.1.now r) c.read_members.result c.read_members.ensures.read

pub returns-clause-stops : goal.returns-clause-stops
returns-clause-stops c =
    let n = c.in-Some.ensures in
    if_stop _ _ (λ left s apart. past_part c.args.known.now.list c.args.architectures.now apart c.args.text.now c.in-Some.rest.now c.in-Some.count c.number-most.result left c.number-most.ensures n.0 n.1 (s apart)) c.read_members.result c.read_members.ensures.stops
