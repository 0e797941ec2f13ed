use Rattle.catalogue_lines.proofs.ReadLemmas.{if_ok, if_stop}
use Rattle.catalogue_publications.proofs.PublicationRead.{at_publications, past_publications, publications_read}
use Rattle.catalogue_publications.proofs.publications.read_publications.Goals as goal

pub returns-in_default-clause-stops : goal.returns-in_default-clause-stops
returns-in_default-clause-stops c = λ apart. at_publications c.args.known.now.list c.args.repos.now c.args.snapshots.now c.args.text.now c.number-most.result c.number-most.ensures c.in_default.ensures

pub returns-clause-read : goal.returns-clause-read
returns-clause-read c =
    let n = c.in-Some.ensures in
    if_ok _ _ (λ p r. publications_read c.args.known.now.list c.args.repos.now c.args.snapshots.now c.args.text.now c.in-Some.rest.now c.in-Some.count c.number-most.result c.number-most.ensures n.0 n.1 p.0.items p.1.now r) c.read_each.result c.read_each.ensures.read

pub returns-clause-stops : goal.returns-clause-stops
returns-clause-stops c =
    let n = c.in-Some.ensures in
    if_stop _ _ (λ left s apart. past_publications c.args.known.now.list c.args.repos.now c.args.snapshots.now apart c.args.text.now c.in-Some.rest.now c.in-Some.count c.number-most.result left c.number-most.ensures n.0 n.1 (s apart)) c.read_each.result c.read_each.ensures.stops
