use Rattle.catalogue_lines.proofs.ReadLemmas.{set_count, set_rest, set_read, if_ok, if_stop}
use Rattle.catalogue_lines.proofs.sets.read_set.Goals as goal

pub returns-in_default-clause-stops : goal.returns-in_default-clause-stops
returns-in_default-clause-stops c = λ apart. set_count c.args.known.now.list c.args.text.now c.number-most.result c.number-most.ensures c.in_default.ensures

pub returns-clause-read : goal.returns-clause-read
returns-clause-read c =
    let n = c.in-Some.ensures in
    if_ok _ _ (λ p r. set_read c.args.known.now.list c.args.text.now c.in-Some.rest.now c.in-Some.count c.number-most.result c.number-most.ensures n.0 n.1 p.0 p.1.now r) c.read_members.result c.read_members.ensures.read

pub returns-clause-stops : goal.returns-clause-stops
returns-clause-stops c =
    let n = c.in-Some.ensures in
    if_stop _ _ (λ left s apart. set_rest c.args.known.now.list c.args.text.now c.in-Some.rest.now c.in-Some.count c.number-most.result left c.number-most.ensures n.0 n.1 (s apart)) c.read_members.result c.read_members.ensures.stops
