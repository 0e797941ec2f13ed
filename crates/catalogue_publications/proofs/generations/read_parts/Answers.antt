use Rattle.catalogue_lines.proofs.ReadLemmas.{if_before}
use Rattle.catalogue_publications.proofs.PublicationRead.{found_at, at_parts, parts_more}
use Rattle.catalogue_publications.proofs.generations.read_parts.Goals as goal

pub returns-in-Err-clause-stops : goal.returns-in-Err-clause-stops
returns-in-Err-clause-stops c =
    let i = c.loop-source.invariant in
    let here = found_at c.args.known.now.list c.args.architectures.now c.args.sources.now c.loop-source.source-index c.source-item.result c.loop-source-test.true c.source-item.is in
    if_before _ _ (λ left s apart. at_parts c.args.known.now.list c.args.architectures.now apart c.args.text.now c.loop-source.rest.now left c.args.sources.now c.loop-source.parts.items c.loop-source.source-index c.source-item.result here i.named i.good i.takes (s apart)) c.in-Err.stop c.in-Err.ensures.stops

pub loop-source-preserved : goal.loop-source-preserved
loop-source-preserved c =
    let i = c.loop-source.invariant in
    let here = found_at c.args.known.now.list c.args.architectures.now c.args.sources.now c.loop-source.source-index c.source-item.result c.loop-source-test.true c.source-item.is in
    let r = parts_more c.args.known.now.list c.args.architectures.now c.args.sources.now c.loop-source.source-index c.source-item.result c.args.text.now c.loop-source.rest.now c.in-Ok.behind.now c.loop-source.parts.items _ c.in_ok-copy-in-Ok.field-0 c.in-Ok.list here
    (record { named = i.named; good = i.good; takes = i.takes }) c.in_ok-copy-in-Ok.ensures c.in-Ok.ensures.read c.in_ok-push-in-Ok.ensures.items in
    record { named = r.named; good = r.good; takes = r.takes }
