use Rattle.std.proofs.Common.{refl, arith}
use Rattle.package_core.specs.Order.{package_cmp}
use Rattle.package_list.specs.Sorted.{AllLess}
use Rattle.catalogue_lines.proofs.KnownParts.{package_pieces}
use Rattle.catalogue_lines.proofs.ValueLemmas.{at_none, at_some}
use Rattle.catalogue_lines.proofs.ReadLemmas.{reads_more, stops_packages}
use Rattle.catalogue_lines.proofs.known.read_packages.Goals as goal

pub returns-in-None-clause-stops : goal.returns-in-None-clause-stops
returns-in-None-clause-stops c =
    let i = c.loop-read.invariant in
    stops_packages c.args.count c.args.text.now c.loop-read.rest.now c.loop-read.known.list (let e = i.counted in omega arith) i.good i.takes
    (at_none _ _ _ c.in_ok-next_package.ensures c.in-None.is)

pub loop-read-preserved : goal.loop-read-preserved
loop-read-preserved c =
    let i = c.loop-read.invariant in
    let h = at_some _ _ _ _ c.in_ok-next_package.ensures c.in-Some.is in
    let r = reads_more package_pieces (AllLess package_cmp) c.loop-read._read c.args.text.now c.loop-read.rest.now c.in-Some.behind.now c.loop-read.known.list _ h.0.0 (record { counted = i.counted; good = i.good; takes = i.takes }) h.0.2 (c.in-Some.behind.now, h.0.1, refl) h.0.3 in
    record { counted = r.counted; good = r.good; takes = r.takes; indexed = h.1 }
