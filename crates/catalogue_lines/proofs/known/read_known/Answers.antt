use Rattle.catalogue_lines.proofs.ReadLemmas.{known_first, known_count, known_rest, known_read, if_ok, if_stop}
use Rattle.catalogue_lines.proofs.known.read_known.Goals as goal

pub returns-in_default-clause-stops : goal.returns-in_default-clause-stops
returns-in_default-clause-stops c = known_first c.args.text.now c.in_default.ensures

pub returns-in_default-count_line-clause-stops : goal.returns-in_default-count_line-clause-stops
returns-in_default-count_line-clause-stops c = known_count c.args.text.now c.in-Some.rest.now c.number-most.result c.in-Some.ensures c.number-most.ensures c.in_default-count_line.ensures

pub returns-clause-read : goal.returns-clause-read
returns-clause-read c =
    let n = c.in-Some-count_line.ensures in
    if_ok _ _ (λ p r. known_read c.args.text.now c.in-Some.rest.now c.in-Some-count_line.rest.now c.in-Some-count_line.count c.number-most.result c.in-Some.ensures c.number-most.ensures n.0 n.1 p.0.list p.1.now r) c.read_packages.result c.read_packages.ensures.read

pub returns-clause-stops : goal.returns-clause-stops
returns-clause-stops c =
    let n = c.in-Some-count_line.ensures in
    if_stop _ _ (λ left s. known_rest c.args.text.now c.in-Some.rest.now c.in-Some-count_line.rest.now c.in-Some-count_line.count c.number-most.result left c.in-Some.ensures c.number-most.ensures n.0 n.1 s) c.read_packages.result c.read_packages.ensures.stops
